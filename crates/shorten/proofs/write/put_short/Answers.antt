-- What stands before the events and the lines of those that stay are put one after the other. Assumes nothing.
use Rattle.writer.proofs.Texts.{trace_put}
use Rattle.shorten.proofs.write.put_short.Goals as goal

pub returns : goal.returns
returns c = trace_put _ _ _ _ (rw c.form_of.ensures at c.put_start-after_start.ensures) c.put_kept.ensures
