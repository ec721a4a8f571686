-- From each source event on the answer is that from the next event on, until an event is refused or none is left. The arrays and the greatest numbers
-- are the tallies of the events passed, and with the event's flag they hold all that its fault asks. Assumes nothing.
use Rattle.fates.proofs.Pass.{Passed}
use Rattle.fates.proofs.source.source_pass.Given as goal

abbrev pub invariant-loop-i : goal.invariant-loop-i
invariant-loop-i l = Passed l.fn.listed l.fn.source l.fn.target l.fn.entries l.fresh l.witnesses l.here l.all l.walls l.i
