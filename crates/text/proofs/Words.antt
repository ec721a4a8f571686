-- Laws of the comparison of two words, by index. Assumes nothing.
use Prim.Native.Nat.{ℕ, suc, ◌+◌, ◌<◌, ◌≤◌}
use mathlib.Core.Path.{◌≡◌, refl, ap, sym, ◌∙◌}
use mathlib.Core.Bool.{true, false, and-false, false≢true}
use mathlib.Core.List.{List, [], ◌∷◌}
use native.Mathlib.Numerals.{add-one}
use lib.Dec.{eqb}
use lib.ListN.{length, get_or, drop, drop_of_length-le}
use lib.Seq.{drop-cons}
use borrow.Author.Tests.{eqb-true, eq-eqb, ne_eqb}
use Rattle.laws.proofs.Bools.{and_left, and_right}
use Rattle.text.specs.Word.{same_bytes}

pub same_len : (l m : List ℕ) → (length l ≡ length m → ⊥) → same_bytes l m ≡ false
unfolding same_bytes
same_len [] [] h = absurd (h refl)
same_len [] (b ∷ m) h = refl
same_len (a ∷ l) [] h = refl
same_len (a ∷ l) (b ∷ m) h = rw (same_len l m (λ e. h (ap suc e)), and-false)

module _ (l m : List ℕ) (i : ℕ) where
  pub same_end : length l ≤ i → length m ≤ i → same_bytes (drop i l) (drop i m) ≡ true
  unfolding same_bytes
  same_end h k = rw (drop_of_length-le l h, drop_of_length-le m k)

  pub same_go : i < length l → i < length m → get_or l i 0 ≡ get_or m i 0 → same_bytes (drop i l) (drop i m) ≡ same_bytes (drop (i + 1) l) (drop (i + 1) m)
  unfolding same_bytes
  same_go h k e = rw (drop-cons l i 0 h, drop-cons m i 0 k, eq-eqb (get_or l i 0) (get_or m i 0) e, add-one i)

  pub same_no : i < length l → i < length m → (get_or l i 0 ≡ get_or m i 0 → ⊥) → same_bytes (drop i l) (drop i m) ≡ false
  unfolding same_bytes
  same_no h k e = rw (drop-cons l i 0 h, drop-cons m i 0 k, ne_eqb (get_or l i 0) (get_or m i 0) e)

-- words that are found the same are equal
pub same_eq : (l m : List ℕ) → same_bytes l m ≡ true → l ≡ m
unfolding same_bytes
same_eq [] [] h = refl
same_eq [] (b ∷ m) h = absurd (false≢true h)
same_eq (a ∷ l) [] h = absurd (false≢true h)
same_eq (a ∷ l) (b ∷ m) h = rw (eqb-true a b (and_left (eqb a b) (same_bytes l m) h), same_eq l m (and_right (eqb a b) (same_bytes l m) h))

-- a word is found the same as itself
pub same_self : (l : List ℕ) → same_bytes l l ≡ true
unfolding same_bytes
same_self [] = refl
same_self (a ∷ l) = rw (eq-eqb a a refl, same_self l)

-- so words that are not found the same differ
pub same_ne : (l m : List ℕ) → same_bytes l m ≡ false → l ≡ m → ⊥
same_ne l m h e = false≢true (sym h ∙ rw e (same_self m))
