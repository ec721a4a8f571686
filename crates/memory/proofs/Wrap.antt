-- The wrapping fact, once over the width: the sum of two numbers of a width is of that width again, it is the plain sum, or that less
-- 2^width, and a narrower counter has what is left of a wider one's sum. Assumes nothing.
use Rattle.std.proofs.Common.{◌≡◌, ℕ, ◌+◌, ◌-◌, ◌%◌, ◌^◌, ◌<◌, ◌≤◌, sym, refl, ap, ◌∙◌, mod-lt, mod-eq_of_lt, sub-add_cancel, arith, pow_pos}
use native.Mathlib.Nat.{mod-eq-sub-mod}
use lib.Pow.{mod-mod-pow}
use Rattle.kinds.specs.Kind.{bits_of, last_of}
use Rattle.memory.specs.Memory.{wrap_sum}
use Rattle.kinds.specs.declared.Width.{Width}
use Rattle.kinds.specs.declared.Width.TheVariants.{Bits32, Bits64}

pub wraps_fits : (width a b : ℕ) → wrap_sum width a b < 2 ^ width
wraps_fits width a b = mod-lt (a + b) (pow_pos width)

pub wraps_not : (width a b : ℕ) → a + b < 2 ^ width → wrap_sum width a b ≡ a + b
wraps_not width a b h = mod-eq_of_lt h

pub wraps_once : (width a b : ℕ) → a < 2 ^ width → b < 2 ^ width → 2 ^ width ≤ a + b → wrap_sum width a b ≡ a + b - 2 ^ width
wraps_once width a b p q h = mod-eq-sub-mod h ∙ mod-eq_of_lt (omega arith)

-- the numbers of a width are those up to its greatest, and so the sum that a kind sets is a value of its width
pub width_last : (w : Width) → last_of w + 1 ≡ 2 ^ bits_of w
width_last Bits32 = refl
width_last Bits64 = refl

pub sum_fits : (w : Width) (a b : ℕ) → wrap_sum (bits_of w) a b ≤ last_of w
sum_fits w a b = omega (arith, width_last w, wraps_fits (bits_of w) a b)

pub wraps_narrow : (v w a b : ℕ) → v ≤ w → wrap_sum w a b % 2 ^ v ≡ wrap_sum v a b
wraps_narrow v w a b h =
    ap (λ (x : ℕ). (a + b) % 2 ^ x % 2 ^ v) (sym (sub-add_cancel h)) ∙ mod-mod-pow (a + b) (w - v) v
