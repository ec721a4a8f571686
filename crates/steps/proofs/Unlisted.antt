-- A call without a list: the rules see every event as ever, so what is so under the list that lists none is so without one. Assumes nothing.
use mathlib.Core.Path.{◌≡◌, ap, subst}
use mathlib.Core.List.{List}
use Prim.Native.Nat.{ℕ}
use Rattle.memory.specs.Listed.{none_listed}
use Rattle.event.specs.declared.Event.{Event}
use Rattle.rules.specs.View.{View, view_in}
use Rattle.rules.proofs.Unlisted.{view_none}
use Rattle.changes.specs.declared.Run.{Run}
use Rattle.steps.specs.Play.{Plays, next_by, next_of, play, play_by}
use Rattle.steps.specs.declared.Replayed.{Replayed}

module _ (s t : List Event) (r : Run) (tags : List ℕ) where
  pub next_none : (ns : List ℕ) (swapped : ℕ) → next_by (view_in none_listed) s t ns swapped r tags ≡ next_of s t ns swapped r tags
  next_none ns swapped = ap (λ (look : Event → View). next_by look s t ns swapped r tags) view_none

  pub plays_none : (ns : List ℕ) (budget : ℕ) {result : Replayed} {after : List ℕ} → Plays (play_by (view_in none_listed) s t ns budget r tags) result after
      → Plays (play s t ns budget r tags) result after
  plays_none ns budget {result} {after} h = subst (λ (look : Event → View). Plays (play_by look s t ns budget r tags) result after) view_none h
