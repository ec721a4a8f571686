-- A store that no access before it makes idle is, if the next access is a store. Assumes nothing.
use Rattle.std.proofs.Common.{arith}
use Rattle.changes.proofs.Near.{removable_in, remove_store}
use Rattle.changes.proofs.Traces.{trace_after}
use Rattle.changes.proofs.tag.Ground.may_remove.Goals as goal

pub returns-else-holds_before : goal.returns-else-holds_before
returns-else-holds_before c = grind (arith, removable_in, remove_store, trace_after)
