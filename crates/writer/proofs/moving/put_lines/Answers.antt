-- An event's line is put. Assumes nothing.
use Rattle.writer.proofs.Texts.{line_small, line_put}
use Rattle.writer.proofs.moving.put_lines.Goals as goal

pub put_event-next-requires : goal.put_event-next-requires
put_event-next-requires c = line_small _ c.loop-found.invariant c.in-Some.ensures.1.0

pub loop-found-preserved : goal.loop-found-preserved
loop-found-preserved c = line_put _ c.loop-found.invariant c.in-Some.ensures.1.0 c.put_event-next.ensures
