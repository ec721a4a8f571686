-- Three parts, one behind the other. Assumes nothing.
use Rattle.files.proofs.Lines.{then}
use Rattle.files.proofs.run.push_count.Goals as goal

pub returns : goal.returns
returns g c = then _ _ _ _ (then _ _ _ _ c.push.ensures c.push_number.ensures.held) c.push-2.ensures
