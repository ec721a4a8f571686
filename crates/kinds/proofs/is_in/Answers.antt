-- The library's test of each number is the definition's. Assumes nothing.
use Rattle.kinds.proofs.Contained.{any_has}
use Rattle.kinds.proofs.is_in.Goals as goal

pub returns : goal.returns
returns c = cc (c.contains.ensures.value, any_has c.args.n c.args.list.now)
