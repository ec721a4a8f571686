-- A number of the target, a place of the trace or just behind it, and the rules. Assumes nothing.
use Rattle.std.proofs.Common.{arith}
use Rattle.sight.proofs.Events.{onward_length, room_at}
use Rattle.changes.proofs.Outcomes.{insert_at, insert_beyond, insert_full, insert_past}
use Rattle.changes.proofs.tag.Ground.can_insert.Goals as goal

pub returns-then-i-tags-clause-tags_value : goal.returns-then-i-tags-clause-tags_value
returns-then-i-tags-clause-tags_value c = grind (arith, insert_at, room_at, onward_length)

pub returns-else-i-tags-clause-tags_value : goal.returns-else-i-tags-clause-tags_value
returns-else-i-tags-clause-tags_value c = grind (arith, insert_beyond, insert_full, insert_past, onward_length)
