-- Laws of the reading of digits, by the byte at a place, and of a number that was read. Assumes nothing.
use Prim.Native.Nat.{ℕ, suc, ◌+◌, ◌-◌, ◌*◌, ◌≤◌, ◌<◌}
use mathlib.Core.Path.{◌≡◌}
use mathlib.Core.Bool.{true, false, ◌&&◌, and-false}
use mathlib.Core.List.{List, [], ◌∷◌}
use native.Mathlib.Numerals.{add-one}
use native.Mathlib.Omega.{arith}
use lib.Dec.{leb}
use lib.ListN.{length, get_or, drop, drop_of_length-le}
use lib.Seq.{drop-cons}
use borrow.Author.Tests.{le-leb, lt-leb, leb-true}
use Rattle.laws.proofs.Bools.{and_left, and_right}
use Rattle.laws.proofs.Cases.{cases, either}
use Rattle.std.specs.Prelude.{Some, None}
use Rattle.text.specs.Number.{is_digit, all_digits, value_on, digits_on, bad_start, number_of}

pub low : (b : ℕ) → b < 48 → is_digit b ≡ false
low b h = simp (lt-leb 48 b h)

grows : (n : ℕ) (l : List ℕ) → n ≤ value_on n l
unfolding value_on
grows n [] = omega arith
grows n (b ∷ l) = omega (arith, grows (n * 10 + (b - 48)) l)

module _ (max n : ℕ) (l : List ℕ) (i : ℕ) where
  -- the byte at the place lies below the digits, or above them
  pub on_low : i < length l → get_or l i 0 < 48 → digits_on max n (drop i l) ≡ None
  unfolding digits_on all_digits
  on_low h s = rw (drop-cons l i 0 h, lt-leb 48 (get_or l i 0) s)

  pub on_high : i < length l → 57 < get_or l i 0 → digits_on max n (drop i l) ≡ None
  unfolding digits_on all_digits
  on_high h s = rw (drop-cons l i 0 h, lt-leb (get_or l i 0) 57 s, and-false)

  -- the number goes past the limit there
  pub on_big : i < length l → max < n * 10 + (get_or l i 0 - 48) → digits_on max n (drop i l) ≡ None
  unfolding digits_on value_on
  on_big h s =
      let m : ℕ = n * 10 + (get_or l i 0 - 48) in
      rw (drop-cons l i 0 h, lt-leb (value_on m (drop (suc i) l)) max (omega (arith, grows m (drop (suc i) l))), and-false)

  -- a digit more
  pub on_go : i < length l → 48 ≤ get_or l i 0 → get_or l i 0 ≤ 57 → digits_on max n (drop i l) ≡ digits_on max (n * 10 + (get_or l i 0 - 48)) (drop (i + 1) l)
  unfolding digits_on value_on all_digits
  on_go h s t = rw (drop-cons l i 0 h, le-leb 48 (get_or l i 0) s, le-leb (get_or l i 0) 57 t, add-one)

  -- no byte is left
  pub on_end_lem : length l ≤ i → n ≤ max → digits_on max n (drop i l) ≡ Some n
  unfolding digits_on value_on all_digits
  on_end_lem h k = rw (drop_of_length-le l h, le-leb n max k)

-- what was read of digits: they are digits, and make that number, which is at most the limit
pub on_value : (max n : ℕ) (l : List ℕ) (m : ℕ) → digits_on max n l ≡ Some m → (all_digits l ≡ true) × ((m ≡ value_on n l) × (m ≤ max))
unfolding digits_on
on_value max n l m e =
    cases (either (all_digits l && leb (value_on n l) max))
    (λ p.
    let q : m ≡ value_on n l = cc (rw p at e) in
    let r : leb (value_on n l) max ≡ true = and_right (all_digits l) _ p in
    (and_left _ (leb (value_on n l) max) p, (q, omega (arith, q, leb-true (value_on n l) max r))))
    (λ p. absurd (let z : ◌≡◌ {A = ℕ} 0 1 = cc (rw p at e) in omega arith))

-- a word that was read as a number starts well, and its digits were read
pub read : (max : ℕ) (l : List ℕ) (m : ℕ) → number_of max l ≡ Some m → (bad_start l ≡ false) × (digits_on max 0 l ≡ Some m)
unfolding number_of
read max l m e = cases (either (bad_start l)) (λ p. absurd (let z : ◌≡◌ {A = ℕ} 0 1 = cc (rw p at e) in omega arith)) (λ p. (p, rw p at e))

-- a number that was read is at most the limit
pub number_le : (max : ℕ) (l : List ℕ) (m : ℕ) → number_of max l ≡ Some m → m ≤ max
number_le max l m e = (on_value max 0 l m (read max l m e).1).1.1
