-- The answer from `from` is the answer from here. Assumes nothing.
use Rattle.std.proofs.Common.{◌≡◌, ◌≤◌, ◌+◌, ◌-◌, length}
use lib.ListN.{drop}
use Rattle.text.specs.Cut.{until}
use Rattle.text.proofs.scan.find.Given as goal

abbrev pub invariant-loop-i : goal.invariant-loop-i
invariant-loop-i l = record { inside : l.i ≤ length l.text; same : l.from + until l.stop (drop l.from l.text) ≡ l.i + until l.stop (drop l.i l.text) }

abbrev pub decreases-loop-i : goal.decreases-loop-i
decreases-loop-i l = length l.text - l.i
