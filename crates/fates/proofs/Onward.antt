-- The answer for the source events, one event on: it stops with a refusal or goes on to the next, as a loop does. By the definition, with the test
-- taken apart. Assumes nothing.
use mathlib.Core.Path.{◌≡◌}
use mathlib.Core.List.{List, ◌∷◌}
use Prim.Native.Nat.{ℕ, suc}
use borrow.Author.Tests.{ne_eqb}
use Rattle.event.specs.Answer.{answer}
use Rattle.event.specs.declared.Event.{Event}
use Rattle.rules.specs.Fault.{Item, fate, item}
use Rattle.rules.specs.View.{View}
use Rattle.rules.specs.Verdict.{items, source_answer, source_fault}

module _ (view : Event → View) (t : List Event) (i : ℕ) (b : List Item) (e : Event) (s : List Event) (n : ℕ) (ns : List ℕ) where
  pub source_goes : source_fault t b e (item (view e) (fate n)) (items view s ns) ≡ 0
      → source_answer view t i b (e ∷ s) (n ∷ ns) ≡ source_answer view t (suc i) (item (view e) (fate n) ∷ b) s ns
  unfolding source_answer
  source_goes h = rw h

  pub source_stops : {k : ℕ} → (k ≡ 0 → ⊥) → source_fault t b e (item (view e) (fate n)) (items view s ns) ≡ k
      → source_answer view t i b (e ∷ s) (n ∷ ns) ≡ answer k 1 i
  unfolding source_answer
  source_stops {k} z h = rw (h, ne_eqb k 0 z)
