-- A bit of a word with one bit set. Assumes nothing.
use Prim.Native.Nat.{ℕ, zero, suc, ◌/◌, ◌%◌, ◌^◌, ◌<◌, ◌≤◌, suc-le-suc, max}
use mathlib.Core.Bool.{Bool, true, false, cond, ◌||◌}
use mathlib.Core.Path.{◌≡◌, refl, sym, ap, ◌∙◌}
use native.Mathlib.Nat.{div-eq_of_lt, div-one, le_of_suc-le-suc, max-le, max-zero, max-eq_right, mod-lt, mul-div-mul_right, one-mul, pow-suc}
use native.Mathlib.Omega.{arith}
use lib.Arith.{digits_mod}
use lib.Bits.{bit_or, or_shr, or_step, shifted_even}
use lib.Dec.{eqb, eqb-suc-suc, eqb-suc-zero, eqb-zero-suc}
use lib.Pow.{pow-lt}
use Rattle.judge.specs.Marks.{bit}

-- the bits of a power
power_bit : (b c : ℕ) → 2 ^ c / 2 ^ b % 2 ≡ cond (eqb b c) 1 0
power_bit zero zero = refl
power_bit zero (suc c) =
    rw (eqb-zero-suc c) (ap (λ (x : ℕ). x % 2) (div-one (2 ^ suc c) ∙ sym (one-mul (2 ^ suc c))) ∙ shifted_even 1 c)
power_bit (suc b) zero = rw (eqb-suc-zero b) (ap (λ (x : ℕ). x % 2) (div-eq_of_lt (pow-lt {i = 0} {j = suc b} (omega arith))))
power_bit (suc b) (suc c) =
    rw (eqb-suc-suc b c, pow-suc 2 b, pow-suc 2 c) (ap (λ (x : ℕ). x % 2) (mul-div-mul_right {m = 2} (2 ^ c) (2 ^ b) (omega arith)) ∙ power_bit b c)

max_small : (x y : ℕ) → x < 2 → y < 2 → max x y < 2
max_small x y h k = suc-le-suc (max-le (le_of_suc-le-suc h) (le_of_suc-le-suc k))

lowest : (x y : ℕ) → bit_or x y % 2 ≡ max (x % 2) (y % 2)
lowest x y = rw (or_step x y) (digits_mod (bit_or (x / 2) (y / 2)) (max_small (x % 2) (y % 2) (mod-lt x (omega arith)) (mod-lt y (omega arith))))

joined : (x : ℕ) (e : Bool) → x < 2 → eqb (max x (cond e 1 0)) 1 ≡ (e || eqb x 1)
joined x true h = let k : x ≤ 1 = omega arith in ap (λ (y : ℕ). eqb y 1) (max-eq_right k)
joined x false h = ap (λ (y : ℕ). eqb y 1) (max-zero x)

pub bit_or_lem : (w b c : ℕ) → bit (bit_or w (2 ^ c)) b ≡ (eqb b c || bit w b)
bit_or_lem w b c =
    rw (or_shr w (2 ^ c) b, lowest (w / 2 ^ b) (2 ^ c / 2 ^ b), power_bit b c) (joined (w / 2 ^ b % 2) (eqb b c) (mod-lt (w / 2 ^ b) (omega arith)))
