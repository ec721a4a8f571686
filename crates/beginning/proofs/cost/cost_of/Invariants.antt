-- The entries before the index are counted. Assumes nothing.
use Rattle.beginning.proofs.Tally.{Counted}
use Rattle.beginning.proofs.cost.cost_of.Given as goal

abbrev pub invariant-loop-i : goal.invariant-loop-i
invariant-loop-i l = Counted l.entries l.steps l.kept l.i
