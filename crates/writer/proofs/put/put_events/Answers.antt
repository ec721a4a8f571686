-- An event's line is put. Assumes nothing.
use Rattle.trace.proofs.Judged.{event_next}
use Rattle.writer.proofs.Texts.{line_small, line_put}
use Rattle.writer.proofs.put.put_events.Goals as goal

pub put_event-next-requires : goal.put_event-next-requires
put_event-next-requires c = line_small _ c.loop-i.invariant (event_next _ _ _ c.get.ensures c.loop-i-test.true)

pub loop-i-preserved : goal.loop-i-preserved
loop-i-preserved c = line_put _ c.loop-i.invariant (event_next _ _ _ c.get.ensures c.loop-i-test.true) c.put_event-next.ensures
