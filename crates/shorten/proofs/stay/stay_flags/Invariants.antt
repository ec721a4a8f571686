-- The walk so far. Assumes nothing.
use Rattle.std.proofs.Common.{◌+◌, ◌-◌, length}
use Rattle.shorten.proofs.Staying.{Staying}
use Rattle.shorten.proofs.stay.stay_flags.Given as goal

abbrev pub invariant-loop-event : goal.invariant-loop-event
invariant-loop-event l = Staying l.listed l.text l.form l.flags l.begun l.values l.last l.at l.n

abbrev pub decreases-loop-event : goal.decreases-loop-event
decreases-loop-event l = length l.text + 1 - l.at
