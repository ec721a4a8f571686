-- An array of 256 that a loop fills from another, each element through one function: before the index stand those of the other's elements before it.
-- Assumes nothing.
use Prim.Native.Nat.{ℕ, suc, ◌+◌, ◌≤◌, ◌<◌}
use mathlib.Core.Bool.{Bool, true, false}
use mathlib.Core.List.{List, [], ◌∷◌, ◌++◌, map, map-append}
use mathlib.Core.Path.{◌≡◌, refl, sym, ◌∙◌, ap}
use native.Mathlib.Numerals.{add-one}
use native.Mathlib.Omega.{arith}
use lib.ListN.{length, get_or, set, take, length-set}
use lib.Seq.{take_all, take-suc, take-suc-set}
use Rattle.std.specs.Int.{from_bool}
use Rattle.numbers.specs.Numbers.{flag, flagged, listing, marks}

pub record Mapped {A B : Type 0} (f : A → B) (whole : List A) (filled : List B) (i : ℕ) : Type 0 where
  pub bound : i ≤ 256
  pub size : length filled ≡ 256
  pub same : take i filled ≡ map f (take i whole)

module _ {A B : Type 0} (f : A → B) (whole : List A) (all : length whole ≡ 256) (filled : List B) (i : ℕ) (h : Mapped f whole filled i) where
  -- one more
  one : (d : A) (x : B) → x ≡ f (get_or whole i d) → i < 256 → take (suc i) (set filled i x) ≡ map f (take (suc i) whole)
  one d x e l =
      take-suc-set filled i x (omega (arith, h.size))
      ∙ (ap (λ k. k ++ (x ∷ [])) h.same
      ∙ (ap (λ y. map f (take i whole) ++ (y ∷ [])) e
      ∙ sym (ap (map f) (take-suc whole i d (omega arith)) ∙ map-append f (take i whole) (get_or whole i d ∷ []))))

  pub more : (d : A) (x : B) → x ≡ f (get_or whole i d) → i < 256 → Mapped f whole (set filled i x) (i + 1)
  more d x e l = record { bound = omega arith; size = simp length-set h.size; same = rw (add-one i) (one d x e l) }

  -- all of them
  pub whole_mapped : 256 ≤ i → filled ≡ map f whole
  whole_mapped l =
      sym (take_all i filled (omega (arith, h.size))) ∙ (h.same ∙ ap (map f) (take_all i whole (omega arith)))

-- A mark as a byte is its number.
pub byte : (b : Bool) → from_bool b ≡ flag b
byte true = refl
byte false = refl

-- A list's marks come back from their numbers.
flag_back : (b : Bool) → flagged (flag b) ≡ b
flag_back true = refl
flag_back false = refl

pub listing_marks : (listed : List Bool) → listing (marks listed) ≡ listed
listing_marks [] = refl
listing_marks (b ∷ bs) = ap (λ c. c ∷ listing (marks bs)) (flag_back b) ∙ ap (λ cs. b ∷ cs) (listing_marks bs)
