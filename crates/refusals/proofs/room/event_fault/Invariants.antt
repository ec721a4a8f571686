-- None of the events before is at fault. Assumes nothing.
use Rattle.refusals.proofs.Turns.{Judging}
use Rattle.refusals.proofs.room.event_fault.Given as goal

abbrev pub invariant-loop-i : goal.invariant-loop-i
invariant-loop-i l = Judging l.listed l.room l.n l.fn.start l.last.memory l.ways l.i
