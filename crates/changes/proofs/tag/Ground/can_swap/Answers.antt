-- The events at two places of the trace, and the rules. Assumes nothing.
use Rattle.std.proofs.Common.{arith}
use Rattle.changes.proofs.Outcomes.{swap_at, swap_past}
use Rattle.changes.proofs.tag.Ground.can_swap.Goals as goal

pub returns-then-place-tags-clause-tags_value : goal.returns-then-place-tags-clause-tags_value
returns-then-place-tags-clause-tags_value c = grind (arith, swap_at)

pub returns-else-place-tags-clause-tags_value : goal.returns-else-place-tags-clause-tags_value
returns-else-place-tags-clause-tags_value c = grind (arith, swap_past)
