-- The place that is sought from the start is that from here on.
use Rattle.std.proofs.Common.{◌≡◌, ◌+◌, drop}
use Rattle.text.specs.Cut.{until}
use Rattle.text.proofs.scan.find_singly.Given as goal

abbrev pub invariant-loop-i : goal.invariant-loop-i
invariant-loop-i l = l.from + until l.stop (drop l.from l.text) ≡ l.i + until l.stop (drop l.i l.text)
