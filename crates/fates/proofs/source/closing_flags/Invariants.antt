-- The pass goes from the end: the array says of each location whether a store before the events passed is closing, and an event's flag is what the
-- array says at its location when the event comes, so the flags of the events passed are right. Assumes nothing.
use Rattle.fates.proofs.Closed.{Passed}
use Rattle.fates.proofs.source.closing_flags.Given as goal

abbrev pub invariant-loop-i : goal.invariant-loop-i
invariant-loop-i l = Passed l.fn.listed l.fn.source l.fn.entries l.closing l.flags l.i
