-- The event there is the number's, and the rules. Assumes nothing.
use Rattle.std.proofs.Common.{arith}
use Rattle.changes.proofs.Outcomes.{remove_at, remove_past}
use Rattle.changes.proofs.tag.Ground.can_remove.Goals as goal
use Rattle.changes.proofs.tag.Ground.can_remove.Goals.{then-i-tags, else-i-tags}

pub returns-then-is_source-clause-tags_value : goal.returns-then-is_source-clause-tags_value
returns-then-is_source-clause-tags_value c = grind (arith, remove_at)

pub returns-else-is_source-clause-tags_value : goal.returns-else-is_source-clause-tags_value
returns-else-is_source-clause-tags_value c =
    elim c.if-i-tags.branch [ then-i-tags w ↦ grind (arith, remove_at) | else-i-tags w ↦ grind (arith, remove_past) ]
