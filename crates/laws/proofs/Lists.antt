-- What holds of each element of a list, and what a test finds of each. Assumes nothing.
use Prim.Native.Nat.{ℕ, zero, suc}
use mathlib.Core.Bool.{Bool, true, ◌&&◌}
use mathlib.Core.List.{List, [], ◌∷◌, ◌++◌}
use mathlib.Core.Path.{◌≡◌}
use lib.ListN.{get_or}
use Rattle.laws.proofs.Bools.{and_left, and_right}
pub use Rattle.laws.specs.Each.{Each}

-- every element passes a test
abbrev pub every : {A : Type 0} → (A → Bool) → List A → Bool
every test [] = true
every test (a ∷ l) = test a && every test l

-- the number s is no element
abbrev pub Free : ℕ → List ℕ → Type 0
Free s l = Each (λ b. b ≡ s → ⊥) l

module _ {A : Type 0} (P : A → Type 0) where
  -- what holds of all holds of each
  pub each_all : ((a : A) → P a) → (l : List A) → Each P l
  each_all f [] = tt
  each_all f (a ∷ l) = (f a, each_all f l)

  pub each_append : (l m : List A) → Each P l → Each P m → Each P (l ++ m)
  each_append [] m h k = k
  each_append (a ∷ l) m h k = (h.0, each_append l m h.1 k)

  -- what follows for each
  pub each_imp : (Q : A → Type 0) → ((a : A) → P a → Q a) → (l : List A) → Each P l → Each Q l
  each_imp Q f [] h = tt
  each_imp Q f (a ∷ l) h = (f a h.0, each_imp Q f l h.1)

-- what a test finds of every element holds of each
pub every_each : {A : Type 0} (t : A → Bool) (P : A → Type 0) → ((a : A) → t a ≡ true → P a) → (l : List A) → every t l ≡ true → Each P l
every_each t P f [] h = tt
every_each t P f (a ∷ l) h = (f a (and_left (t a) (every t l) h), every_each t P f l (and_right (t a) (every t l) h))

pub every_at : {A : Type 0} (t : A → Bool) (d : A) (l : List A) → t d ≡ true → every t l ≡ true → (i : ℕ) → t (get_or l i d) ≡ true
every_at t d [] p h i = p
every_at t d (a ∷ l) p h zero = and_left (t a) (every t l) h
every_at t d (a ∷ l) p h (suc i) = every_at t d l p (and_right (t a) (every t l) h) i
