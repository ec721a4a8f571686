-- What stands before the events and the events' lines are put one after the other. Assumes nothing.
use Rattle.writer.proofs.Texts.{trace_put}
use Rattle.writer.proofs.moving.put_moved.Goals as goal

pub returns : goal.returns
returns c = trace_put _ _ _ _ c.put_start-after_start.ensures c.put_lines.ensures
