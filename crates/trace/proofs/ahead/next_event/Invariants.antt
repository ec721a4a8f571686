-- The events from the start on are those from here on, and what is found is. Assumes nothing.
use Rattle.std.proofs.Common.{◌≡◌, ◌≤◌, ◌+◌, ◌-◌, length}
use Rattle.trace.specs.Ahead.{heard_from, found_from}
use Rattle.trace.proofs.ahead.next_event.Given as goal

abbrev pub invariant-loop-to : goal.invariant-loop-to
invariant-loop-to l = record {
  rises : l.from ≤ l.at;
  same : heard_from l.fn.form l.text l.from ≡ heard_from l.fn.form l.text l.at;
  found : found_from l.fn.form l.text l.from ≡ found_from l.fn.form l.text l.at;
}

abbrev pub decreases-loop-to : goal.decreases-loop-to
decreases-loop-to l = length l.text + 1 - l.at
