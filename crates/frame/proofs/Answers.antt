-- Which answers a reading gives: 1 at no place, 2 or a refusal of a line at that line, and 17. Assumes nothing.
use Prim.Native.Nat.{ℕ, ◌+◌, ◌≤◌}
use mathlib.Core.Bool.{true}
use mathlib.Core.List.{List, [], ◌∷◌}
use mathlib.Core.Logic.{◌⊎◌}
use mathlib.Core.Path.{◌≡◌, refl}
use native.Mathlib.Omega.{arith}
use lib.Dec.{ltb}
use lib.ListN.{length}
use Rattle.laws.specs.Has.{has}
use Rattle.event.specs.Answer.{answer, done, text_sides, InTable}
use Rattle.event.proofs.Answers.{Among, Given, none, one, among_cond, given_cond, given_fault, in_cond}
use Rattle.text.specs.Cut.{is_empty}
use Rattle.text.specs.Line.{split}
use Rattle.frame.specs.Reading.{Layout, headed, head_fault, lines_fault}

module _ {S : Type 0} (T : Layout S) (ns : List ℕ) (side : ℕ) (two : has 2 ns ≡ true)
    (known : (s : S) (l : List ℕ) → (T.fault s l ≡ 0) ⊎ (has (T.fault s l) ns ≡ true)) where
  pub lines_given : (k : ℕ) (s : S) (ls : List (List ℕ)) → 1 ≤ k → Given ns side (lines_fault T side k s ls)
  unfolding lines_fault
  lines_given k s [] h = none
  lines_given k s (l ∷ []) h = given_cond ns side (is_empty l) none (one two h)
  lines_given k s (l ∷ m ∷ ls) h =
      given_fault ns side (T.fault s l) k (known s l) h (lines_given (k + 1) (T.next s l) (m ∷ ls) (omega arith))

-- 1 has no place
pub head_among : (side limit : ℕ) (header t : List ℕ) → Among (1 ∷ 2 ∷ []) (head_fault side limit header t)
unfolding head_fault
head_among side limit header t =
    among_cond _ (ltb limit (length t)) (one refl) (among_cond _ (headed header (split t)) none (one refl))

pub head_in : (side limit : ℕ) (header t : List ℕ) → has side text_sides ≡ true → InTable (head_fault side limit header t)
unfolding head_fault
head_in side limit header t h =
    in_cond (ltb limit (length t)) (answer 1 side 0) _ (rw h) (in_cond (headed header (split t)) done (answer 2 side 1) refl (rw h))
