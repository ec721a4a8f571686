-- Marking sets its number and leaves every other one; words of 0 mark none. Assumes nothing.
use Prim.Native.Nat.{ℕ, zero, suc, ◌/◌, ◌%◌, ◌^◌, ◌<◌}
use mathlib.Core.Bool.{false, ◌||◌}
use mathlib.Core.List.{List}
use mathlib.Core.Path.{◌≡◌, refl, sym, ap, ◌∙◌}
use native.Mathlib.Nat.{zero-div}
use native.Mathlib.Omega.{arith}
use lib.Bits.{bit_or}
use lib.Dec.{eqb}
use lib.ListN.{length, get_or, replicate}
use lib.Seq.{get_or-set_same, get_or-set_other}
use borrow.Author.Tests.{eqb-true, eqb-false, eq-eqb, ne_eqb}
use Rattle.laws.proofs.Cases.{cases, either}
use Rattle.judge.specs.Marks.{bit, in_words, marking}
use Rattle.judge.proofs.Bit.{bit_or_lem}

-- two numbers of one word are one if their bits are
one_word : (j k : ℕ) → j / 64 ≡ k / 64 → eqb (j % 64) (k % 64) ≡ eqb j k
one_word j k e =
    cases (either (eqb (j % 64) (k % 64)))
    (λ q. let r : j % 64 ≡ k % 64 = eqb-true _ _ q in q ∙ sym (eq-eqb j k (omega arith)))
    (λ q. q ∙ sym (ne_eqb j k (λ z. eqb-false (j % 64) (k % 64) q (ap (λ (x : ℕ). x % 64) z))))

-- a number within the words is marked from then on, and every other one as it was
pub in_marking : (ws : List ℕ) (k j : ℕ) → k / 64 < length ws → in_words (marking ws k) j ≡ (eqb j k || in_words ws j)
in_marking ws k j s =
    let next : ℕ = bit_or (get_or ws (k / 64) 0) (2 ^ (k % 64)) in
    cases (either (eqb (j / 64) (k / 64)))
    (λ e. let q : j / 64 ≡ k / 64 = eqb-true _ _ e in
    rw (q, get_or-set_same ws (k / 64) next 0 s, ← one_word j k q) (bit_or_lem (get_or ws (k / 64) 0) (j % 64) (k % 64)))
    (λ e. let ne : j / 64 ≡ k / 64 → ⊥ = eqb-false _ _ e in
    rw (get_or-set_other ws (k / 64) (j / 64) next 0 ne, ne_eqb j k (λ z. ne (ap (λ (x : ℕ). x / 64) z))))

-- words of 0
no_bit : (b : ℕ) → bit 0 b ≡ false
no_bit b = rw (zero-div (2 ^ b))

zeros : (n i : ℕ) → ◌≡◌ {A = ℕ} (get_or (replicate n 0) i 0) 0
zeros zero i = refl
zeros (suc n) zero = refl
zeros (suc n) (suc i) = zeros n i

pub in_none : (n k : ℕ) → in_words (replicate n 0) k ≡ false
in_none n k = rw (zeros n (k / 64)) (no_bit (k % 64))
