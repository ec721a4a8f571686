-- The numbers that entries name, as marks: none at first, one more with each kept entry. Assumes nothing.
use mathlib.Core.Path.{◌≡◌, ◌∙◌, ap}
use mathlib.Core.Bool.{Bool, true, ◌||◌, false≢true}
use mathlib.Core.List.{List, [], ◌∷◌}
use Prim.Native.Nat.{ℕ, zero, suc, ◌<◌}
use native.Mathlib.Omega.{arith}
use lib.Dec.{eqb}
use lib.ListN.{length, replicate}
use borrow.Author.Tests.{ne_eqb}
use Rattle.rules.specs.Fault.{is_gone}
use Rattle.judge.specs.Marks.{marking}
use Rattle.judge.specs.Pass.{Marked}
use Rattle.judge.proofs.Marking.{in_marking, in_none}

pub marked_start : Marked (replicate 13 0) []
marked_start k p h = in_none 13 k

pub marked_gone : (marks b : List ℕ) (k : ℕ) → is_gone k ≡ true → Marked marks b → Marked marks (k ∷ b)
marked_gone marks b zero g m l p h = let z : l ≡ 0 → ⊥ = λ e. omega arith in m l p h ∙ rw (ne_eqb l 0 z)
marked_gone marks b (suc k) g m l p h = absurd (false≢true g)

pub marked_next : (marks b : List ℕ) (k : ℕ) → k < 801 → length marks ≡ 13 → Marked marks b → Marked (marking marks k) (k ∷ b)
marked_next marks b k h size m l p i = in_marking marks k l (omega arith) ∙ ap (λ (c : Bool). eqb l k || c) (m l p i)
