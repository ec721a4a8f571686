-- Laws of a number's decimal digits: one digit, or the digits of a tenth and one more. Assumes nothing.
use Prim.Native.Nat.{ℕ, zero, suc, ◌+◌, ◌/◌, ◌%◌, ◌^◌, ◌≤◌, ◌<◌}
use mathlib.Core.Path.{◌≡◌, sym, ◌∙◌, ap}
use mathlib.Core.List.{[], ◌∷◌, ◌++◌}
use native.Mathlib.Nat.{pow-suc}
use native.Mathlib.Omega.{arith}
use lib.ListN.{length, length-append}
use borrow.Author.Tests.{lt-ltb, le-ltb}
use Rattle.laws.proofs.Cases.{cases, side}
use Rattle.text.specs.Number.{dec, decimal}

stable : (k n : ℕ) → n < k → dec k n ≡ dec (suc k) n
unfolding dec
stable zero n h = absurd (omega arith)
stable (suc k) n h = cases (side n 10) (λ a. rw (lt-ltb n 10 a)) (λ a. rw (le-ltb n 10 a, stable k (n / 10) (omega arith)))

-- n + 1 digits are enough, and more change nothing
steady : (k n : ℕ) → n < k → dec k n ≡ dec (suc n) n
steady zero n h = absurd (omega arith)
steady (suc k) n h = cases (side n k) (λ a. sym (stable k n a) ∙ steady k n a) (λ a. let e : n ≡ k = omega arith in rw e)

pub decimal_one : (n : ℕ) → n < 10 → decimal n ≡ (48 + n) ∷ []
unfolding decimal dec
decimal_one n h = rw (lt-ltb n 10 h)

pub decimal_more : (n : ℕ) → 10 ≤ n → decimal n ≡ decimal (n / 10) ++ ((48 + n % 10) ∷ [])
unfolding decimal dec
decimal_more n h = rw (le-ltb n 10 h, steady n (n / 10) (omega arith))

pub length_one : (n : ℕ) → n < 10 → length (decimal n) ≡ 1
length_one n h = ap length (decimal_one n h)

pub length_more : (n : ℕ) → 10 ≤ n → length (decimal n) ≡ length (decimal (n / 10)) + 1
length_more n h = rw (decimal_more n h, length-append)

-- there is at least one
pub length_some : (n : ℕ) → 0 < length (decimal n)
length_some n = cases (side n 10) (λ a. omega (arith, length_one n a)) (λ a. omega (arith, length_more n a))

-- below a power of ten there are no more digits than its zeros
pub length_below : (k n : ℕ) → n < 10 ^ suc k → length (decimal n) ≤ suc k
length_below zero n h = omega (arith, length_one n (omega arith))
length_below (suc k) n h =
    cases (side n 10) (λ a. omega (arith, length_one n a))
    (λ a. omega (arith, length_more n a, length_below k (n / 10) (omega (arith, pow-suc 10 (suc k)))))

-- a number of 64 bits has at most 20
pub length_wide : (n : ℕ) → n < 2 ^ 64 → length (decimal n) ≤ 20
length_wide n h = length_below 19 n (omega arith)
