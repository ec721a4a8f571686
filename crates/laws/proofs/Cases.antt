-- Two cases taken apart, and what the cases of a test are. Assumes nothing.
use Prim.Native.Nat.{ℕ, zero, suc, ◌<◌, ◌≤◌}
use mathlib.Core.Bool.{Bool, true, false, cond}
use mathlib.Core.Logic.{◌⊎◌, inl, inr}
use mathlib.Core.Path.{◌≡◌, refl}
use native.Mathlib.Omega.{arith}
use lib.Dec.{ltb}
use borrow.Author.Tests.{ltb-true, ltb-false}

-- one of two, the sum first, so that each arm knows its fact's type
pub cases : {A B C : Type 0} → A ⊎ B → (A → C) → (B → C) → C
cases (inl a) f g = f a
cases (inr b) f g = g b

-- a test is true or false, with the equation
pub either : (b : Bool) → (b ≡ true) ⊎ (b ≡ false)
either true = inl refl
either false = inr refl

-- a number is below another, or not
pub side : (m n : ℕ) → (m < n) ⊎ (n ≤ m)
side m n = cases (either (ltb m n)) (λ e. inl (ltb-true m n e)) (λ e. inr (ltb-false m n e))

-- what holds of both of two things holds of the one that a test picks
pub by_cond : {A : Type 0} (P : A → Type 0) (c : Bool) {x y : A} → P x → P y → P (cond c x y)
by_cond P true h k = h
by_cond P false h k = k

-- a number that is none of 1 to n is 0 or beyond them, as where no arm of a `match` on 1 to n is taken
abbrev pub NoneOf : ℕ → ℕ → Type 0
NoneOf zero k = Unit {0}
NoneOf (suc n) k = NoneOf n k × (k ≡ suc n → ⊥)

pub beyond : (n k : ℕ) → NoneOf n k → 1 ≤ k → suc n ≤ k
beyond zero k h p = p
beyond (suc n) k h p = omega (arith, beyond n k h.0 p, h.1)

-- one of two things by a test: where its number is 0, it is not the one whose number is not
module _ {A : Type 0} (f : A → ℕ) where
  pub not_first : (b : Bool) (x y : A) → (f x ≡ 0 → ⊥) → f (cond b x y) ≡ 0 → (b ≡ false) × (f y ≡ 0)
  not_first true x y n h = absurd (n h)
  not_first false x y n h = (refl, h)

  pub not_second : (b : Bool) (x y : A) → (f y ≡ 0 → ⊥) → f (cond b x y) ≡ 0 → (b ≡ true) × (f x ≡ 0)
  not_second true x y n h = (refl, h)
  not_second false x y n h = absurd (n h)
