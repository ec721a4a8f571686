-- The first event that is lost is the first of those from here on. Assumes nothing.
use Rattle.std.proofs.Common.{◌≡◌, ◌≤◌, ◌+◌, ◌-◌, length}
use Rattle.trace.specs.Ahead.{heard_from}
use Rattle.trace.specs.Reading.{events_of}
use Rattle.trace.specs.Writing.{lost}
use Rattle.refusals.proofs.moving.loss_in.Given as goal

abbrev pub invariant-loop-found : goal.invariant-loop-found
invariant-loop-found l = record { few : l.n ≤ l.at; same : lost l.to 1 1 (events_of l.text) ≡ lost l.to 1 (l.n + 1) (heard_from l.form l.text l.at) }

abbrev pub decreases-loop-found : goal.decreases-loop-found
decreases-loop-found l = length l.text + 1 - l.at
