-- Document 01, "Trace text": "A number is decimal, without leading zeros (`0` itself is fine)", and at most a limit. The digits are the bytes 48 to 57.
-- Assumes nothing.
use Rattle.std.specs.Prelude.{ℕ, zero, suc, ◌+◌, ◌-◌, ◌*◌, ◌/◌, ◌%◌, Bool, true, ◌||◌, ◌&&◌, cond, Option, Some, None, List, [], ◌∷◌, ◌++◌, get_or, length, eqb, leb, ltb}

-- Whether a byte is a digit.
abbrev pub is_digit : ℕ → Bool
is_digit b = leb 48 b && leb b 57

-- Whether every byte is a digit.
unfoldable pub all_digits : List ℕ → Bool
all_digits [] = true
all_digits (b ∷ l) = is_digit b && all_digits l

-- The number that digits make when they follow those of the number n.
unfoldable pub value_on : ℕ → List ℕ → ℕ
value_on n [] = n
value_on n (b ∷ l) = value_on (n * 10 + (b - 48)) l

-- That number, if they are digits and it is at most max.
unfoldable pub digits_on : ℕ → ℕ → List ℕ → Option ℕ
digits_on max n l = cond (all_digits l && leb (value_on n l) max) (Some (value_on n l)) None

-- Nothing at all, or a 0 with something after it.
abbrev pub bad_start : List ℕ → Bool
bad_start l = eqb (length l) 0 || (ltb 1 (length l) && eqb (get_or l 0 0) 48)

-- The number that a word is, at most max.
unfoldable pub number_of : ℕ → List ℕ → Option ℕ
number_of max l = cond (bad_start l) None (digits_on max 0 l)

-- The number to go on with; no number: refused.
abbrev pub on_number : {R : Type 0} → R → Option ℕ → (ℕ → R) → R
on_number r (Some n) k = k n
on_number r None k = r

-- The digits of n, of which k are enough.
unfoldable pub dec : ℕ → ℕ → List ℕ
dec zero n = []
dec (suc k) n = cond (ltb n 10) ((48 + n) ∷ []) (dec k (n / 10) ++ ((48 + n % 10) ∷ []))

-- The decimal digits of n: it has at most n + 1.
unfoldable pub decimal : ℕ → List ℕ
decimal n = dec (suc n) n
