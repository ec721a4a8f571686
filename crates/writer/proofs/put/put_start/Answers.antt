-- Line 1 and the `init` lines are put one after the other. Assumes nothing.
use Rattle.writer.proofs.Texts.{start_put}
use Rattle.writer.proofs.put.put_start.Goals as goal

pub returns : goal.returns
returns c = start_put _ _ _ c.put_header-after_header.ensures c.put_inits.ensures
