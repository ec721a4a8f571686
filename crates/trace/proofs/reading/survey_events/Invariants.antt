-- The reading so far, of n events. Assumes nothing.
use Rattle.std.proofs.Common.{◌-◌, length}
use Rattle.trace.proofs.Turns.{Reading}
use Rattle.trace.proofs.reading.survey_events.Given as goal

abbrev pub invariant-loop-to : goal.invariant-loop-to
invariant-loop-to l = Reading l.listed l.fn.form l.text l.from l.line l.side l.has l.start l.last.memory l.ways l.bare l.found l.at l.k l.n

abbrev pub decreases-loop-to : goal.decreases-loop-to
decreases-loop-to l = length l.text - l.at
