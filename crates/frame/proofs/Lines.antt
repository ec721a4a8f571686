-- The first refusal of lines, one line at a time; and what holds of lines none of which is refused. Assumes nothing.
use Prim.Native.Nat.{ℕ, ◌+◌}
use mathlib.Core.Path.{◌≡◌}
use mathlib.Core.Bool.{cond}
use mathlib.Core.List.{List, [], ◌∷◌}
use native.Mathlib.Omega.{arith}
use lib.Dec.{eqb}
use borrow.Author.Tests.{eqb-true, eqb-false}
use Rattle.laws.proofs.Cases.{cases, either}
use Rattle.event.specs.Answer.{answer, done}
use Rattle.text.specs.Cut.{is_empty}
use Rattle.text.proofs.Walk.{PartLeft}
use Rattle.frame.specs.Reading.{Layout, lines_fault}

-- a line is not refused
module _ {S : Type 0} (T : Layout S) (side k : ℕ) (s : S) where
  pub lines_go : (l : List ℕ) (ps : List (List ℕ)) → PartLeft ps → T.fault s l ≡ 0 → lines_fault T side k s (l ∷ ps) ≡ lines_fault T side (k + 1) (T.next s l) ps
  unfolding lines_fault
  lines_go l [] o h = absurd o
  lines_go l (p ∷ ps) o h = rw h

-- What holds of the end, and of a line that is not refused if it holds of those after it, holds of lines none of which is refused.
module _ {S : Type 0} (T : Layout S) (side : ℕ) (P : S → List (List ℕ) → Type 0) (end : (s : S) → P s ([] ∷ []))
    (step : (s : S) (l m : List ℕ) (ls : List (List ℕ)) → T.fault s l ≡ 0 → P (T.next s l) (m ∷ ls) → P s (l ∷ m ∷ ls)) where
  last_passes : (k : ℕ) (s : S) (l : List ℕ) → (cond (is_empty l) done (answer 2 side k)).number ≡ 0 → P s (l ∷ [])
  last_passes k s [] h = end s
  last_passes k s (b ∷ l) h = absurd (omega arith)

  pub lines_pass : (k : ℕ) (s : S) (ls : List (List ℕ)) → PartLeft ls → (lines_fault T side k s ls).number ≡ 0 → P s ls
  unfolding lines_fault
  lines_pass k s [] o h = absurd o
  lines_pass k s (l ∷ []) o h = last_passes k s l h
  lines_pass k s (l ∷ m ∷ ls) o h =
      cases (either (eqb (T.fault s l) 0))
      (λ e. step s l m ls (eqb-true (T.fault s l) 0 e) (lines_pass (k + 1) (T.next s l) (m ∷ ls) tt (rw e at h)))
      (λ e. absurd (eqb-false (T.fault s l) 0 e (rw e at h)))
