-- What hands back no refusal was refused by nothing. Assumes nothing.
use Prim.Native.Nat.{ℕ, ◌≤◌}
use mathlib.Core.Path.{◌≡◌, refl}
use mathlib.Core.Bool.{Bool, true, false, cond}
use native.Mathlib.Omega.{arith}
use lib.Dec.{eqb, leb}
use borrow.Author.Tests.{eqb-true, eqb-false, leb-true}
use Rattle.laws.proofs.Cases.{cases, either}
use Rattle.event.specs.Answer.{answer, first}
use Rattle.event.specs.declared.Answer.{Answer}
use Rattle.frame.specs.Reading.{settle, fitted}

pub first_done : (x y : Answer) → (first x y).number ≡ 0 → (x.number ≡ 0) × (y.number ≡ 0)
first_done x y h =
    cases (either (eqb x.number 0)) (λ e. (eqb-true x.number 0 e, rw e at h)) (λ e. absurd (eqb-false x.number 0 e (rw e at h)))

-- of two refusals, the second is asked where the first does not refuse
pub settle_first : {R : Type 0} (refused : Answer → R) (x y : Answer) (r : R) → settle refused (first x y) r ≡ settle refused x (settle refused y r)
settle_first refused x y r = cases (either (eqb x.number 0)) (λ e. rw e) (λ e. rw (e, e))

module _ {R : Type 0} (refused : Answer → R) (number : R → ℕ) (told : (a : Answer) → number (refused a) ≡ a.number) where
  pub settled : (a : Answer) (r : R) → number (settle refused a r) ≡ 0 → (a.number ≡ 0) × (settle refused a r ≡ r)
  settled a r h =
      cases (either (eqb a.number 0)) (λ e. (eqb-true a.number 0 e, rw e))
      (λ e. absurd (eqb-false a.number 0 e (rw (told a) at (rw e at h))))

  fit_if : (b : Bool) (a : Answer) (r : R) → (a.number ≡ 0 → ⊥) → number (cond b r (refused a)) ≡ 0 → (b ≡ true) × (cond b r (refused a) ≡ r)
  fit_if true a r n h = (refl, refl)
  fit_if false a r n h = absurd (n (rw (told a) at h))

  pub fits : (side n many : ℕ) (r : R) → number (fitted refused side n many r) ≡ 0 → (n ≤ many) × (fitted refused side n many r ≡ r)
  fits side n many r h =
      let f = fit_if (leb n many) (answer 17 side n) r (λ z. omega arith) h in
      (leb-true n many f.0, f.1)
