-- The numbers before the index stand at the front. Assumes nothing.
use Rattle.std.proofs.Common.{◌≡◌, ◌++◌, drop}
use Rattle.beginning.specs.Start.{counted}
use Rattle.beginning.proofs.tag.fill.Given as goal

abbrev pub invariant-loop-i : goal.invariant-loop-i
invariant-loop-i l = l.tag-items ≡ counted 0 l.i ++ drop l.i l.initial.tag-items
