-- A call without a list: the rules see every event as ever, so what is so under the list that lists none is so without one. Assumes nothing.
use mathlib.Core.Path.{subst}
use mathlib.Core.List.{List}
use Prim.Native.Nat.{ℕ}
use Rattle.memory.specs.Listed.{none_listed}
use Rattle.event.specs.declared.Event.{Event}
use Rattle.rules.specs.View.{View, view_in}
use Rattle.rules.proofs.Unlisted.{view_none}
use Rattle.changes.specs.Apply.{Applies, outcome, outcome_by}
use Rattle.changes.specs.declared.Applied.{Applied}
use Rattle.changes.specs.declared.Run.{Run}
use Rattle.changes.specs.declared.Step.{Step}

module _ (s t : List Event) (r : Run) (tags : List ℕ) where
  pub applies_none : (st : Step) {result : Applied} {after : List ℕ} → Applies r tags (outcome_by (view_in none_listed) s t r tags st) result after
      → Applies r tags (outcome s t r tags st) result after
  applies_none st {result} {after} h = subst (λ (look : Event → View). Applies r tags (outcome_by look s t r tags st) result after) view_none h
