-- An event that stands at its number is passed. Assumes nothing.
use Rattle.std.proofs.Common.{arith}
use Rattle.changes.proofs.Traces.{drop_at}
use Rattle.steps.proofs.search.missing_step.Goals as goal

pub returns-then-target_number-i : goal.returns-then-target_number-i
returns-then-target_number-i c = λ s t. let h = c.loop-i.invariant s t in grind (arith, drop_at s t)

pub loop-i-preserved : goal.loop-i-preserved
loop-i-preserved c = λ s t. let h = c.loop-i.invariant s t in grind (arith, drop_at s t)
