-- The answers, one element on: at each element an answer stops with a refusal or goes on to the next, as a loop does. By the definitions, with the
-- test taken apart. Assumes nothing.
use mathlib.Core.Path.{◌≡◌}
use mathlib.Core.Logic.{◌≢◌}
use mathlib.Core.Bool.{Bool, true, false, not, ◌&&◌, ◌||◌, or-true}
use mathlib.Core.List.{List, ◌∷◌}
use Prim.Native.Nat.{ℕ, suc}
use lib.Dec.{eqb, ltb}
use borrow.Author.Tests.{eq-eqb, ne_eqb}
use Rattle.laws.specs.Has.{has}
use Rattle.event.specs.Answer.{answer}
use Rattle.memory.specs.Listed.{listed}
use Rattle.event.specs.declared.Event.{Event}
use Rattle.rules.specs.Fault.{Item, is_gone}
use Rattle.rules.specs.View.{View}
use Rattle.rules.specs.Verdict.{entry_answer, start_answer_in, target_answer, target_fault, target_item}

-- 7
module _ (regs : List Bool) (l v w : ℕ) (m n : List ℕ) where
  pub start_goes : v ≡ w → start_answer_in regs l (v ∷ m) (w ∷ n) ≡ start_answer_in regs (suc l) m n
  unfolding start_answer_in
  start_goes e = rw (eq-eqb v w e)

  pub start_skips : listed regs l ≡ true → start_answer_in regs l (v ∷ m) (w ∷ n) ≡ start_answer_in regs (suc l) m n
  unfolding start_answer_in
  start_skips h = rw (h, or-true (eqb v w))

  pub start_stops : v ≢ w → listed regs l ≡ false → start_answer_in regs l (v ∷ m) (w ∷ n) ≡ answer 7 2 l
  unfolding start_answer_in
  start_stops ne h = rw (ne_eqb v w ne, h)

-- 9: the test, for a kept number
pub entry_goes : (n i k : ℕ) (b ks : List ℕ) → (not (is_gone k) && (ltb n k || has k b)) ≡ false → entry_answer n i b (k ∷ ks) ≡ entry_answer n (suc i) (k ∷ b) ks
unfolding entry_answer
entry_goes n i k b ks e = rw e

pub entry_stops : (n i k : ℕ) (b ks : List ℕ) → (not (is_gone k) && (ltb n k || has k b)) ≡ true → entry_answer n i b (k ∷ ks) ≡ answer 9 3 i
unfolding entry_answer
entry_stops n i k b ks e = rw e

-- 15, 16
module _ (view : Event → View) (ns : List ℕ) (k : ℕ) (b : List Item) (e : Event) (t : List Event) where
  pub target_goes : target_fault e.kind b (target_item view ns k e) ≡ 0
      → target_answer view ns k b (e ∷ t) ≡ target_answer view ns (suc k) (target_item view ns k e ∷ b) t
  unfolding target_answer
  target_goes h = rw h

  pub target_stops : {f : ℕ} → (f ≡ 0 → ⊥) → target_fault e.kind b (target_item view ns k e) ≡ f → target_answer view ns k b (e ∷ t) ≡ answer f 2 k
  unfolding target_answer
  target_stops {f} z h = rw (h, ne_eqb f 0 z)
