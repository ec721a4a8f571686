-- The first of a list that is bad, one by one (18 to 21). Assumes nothing.
use Prim.Native.Nat.{ℕ, suc, ◌+◌}
use mathlib.Core.Bool.{Bool, true, false, cond}
use mathlib.Core.Path.{◌≡◌, refl, sym, ◌∙◌, ap}
use mathlib.Core.List.{List, [], ◌∷◌, ◌++◌}
use native.Mathlib.Omega.{arith}
use lib.Dec.{eqb}
use lib.ListN.{length}
use Rattle.laws.proofs.Cases.{cases, either}
use Rattle.laws.specs.Each.{Each}
use Rattle.event.specs.Answer.{answer, done, first}
use Rattle.event.specs.declared.Answer.{Answer}
use Rattle.uses.specs.Bad.{first_bad}

-- the first of a list that is bad
module _ {A : Type 0} (bad : A → Bool) (number side : ℕ) where
  module _ (k : ℕ) (e : A) (es : List A) where
    pub bad_go : bad e ≡ false → first_bad bad number side k (e ∷ es) ≡ first_bad bad number side (k + 1) es
    unfolding first_bad
    bad_go h = rw h

    pub bad_here : bad e ≡ true → first_bad bad number side k (e ∷ es) ≡ answer number side k
    unfolding first_bad
    bad_here h = rw h

    -- there is none: it is not the first, and there is none among the others
    pub bad_none : (number ≡ 0 → ⊥) → (first_bad bad number side k (e ∷ es)).number ≡ 0
        → (bad e ≡ false) × ((first_bad bad number side (k + 1) es).number ≡ 0)
    bad_none n h =
        cases (either (bad e)) (λ y. absurd (n (ap (λ (a : Answer). a.number) (sym (bad_here y)) ∙ h))) (λ y. (y, rw (bad_go y) at h))

  pub bad_end : (k : ℕ) → first_bad bad number side k [] ≡ done
  unfolding first_bad
  bad_end k = refl

  -- none is: each is not
  pub bad_each : (number ≡ 0 → ⊥) → (k : ℕ) (es : List A) → (first_bad bad number side k es).number ≡ 0 → Each (λ e. bad e ≡ false) es
  bad_each n k [] h = tt
  bad_each n k (e ∷ es) h = let b = bad_none k e es n h in (b.0, bad_each n (k + 1) es b.1)

  pub bad_done : (k : ℕ) (es : List A) → Each (λ e. bad e ≡ false) es → first_bad bad number side k es ≡ done
  unfolding first_bad
  bad_done k [] h = refl
  bad_done k (e ∷ es) h = rw h.0 (bad_done (k + 1) es h.1)

  -- of two lists one after the other, the first of what is found in each
  module _ (z : eqb number 0 ≡ false) where
    bad_append : (k : ℕ) (xs ys : List A)
        → first_bad bad number side k (xs ++ ys) ≡ first (first_bad bad number side k xs) (first_bad bad number side (k + length xs) ys)
    unfolding first_bad
    bad_append k [] ys = let o : k + 0 ≡ k = omega arith in rw o
    bad_append k (e ∷ xs) ys =
        let o : k + suc (length xs) ≡ k + 1 + length xs = omega arith in
        cases (either (bad e)) (λ y. rw (y, z)) (λ y. rw (y, o) (bad_append (k + 1) xs ys))

    -- one more, with what was found so far
    pub bad_found : (k : ℕ) (e : A) (es : List A) (a : Answer)
        → first a (first_bad bad number side k (e ∷ es)) ≡ first (cond (bad e) (first a (answer number side k)) a) (first_bad bad number side (k + 1) es)
    unfolding first_bad
    bad_found k e es a =
        cases (either (bad e)) (λ y. rw y (cases (either (eqb a.number 0)) (λ i. rw (i, z)) (λ i. rw (i, i)))) (λ y. rw y)
