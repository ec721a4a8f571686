-- Numbers marked in words of 64 bits: the number k has the bit k % 64 of the word k / 64. Assumes nothing.
use Rattle.std.specs.Prelude.{ℕ, ◌/◌, ◌%◌, ◌^◌, Bool, List, eqb, get_or, set}
use Rattle.std.specs.Int.Bits.{bit_or}

-- a bit of a word
abbrev pub bit : ℕ → ℕ → Bool
bit w b = eqb (w / 2 ^ b % 2) 1

-- a number is marked
abbrev pub in_words : List ℕ → ℕ → Bool
in_words ws k = bit (get_or ws (k / 64) 0) (k % 64)

-- the words with one number more marked
abbrev pub marking : List ℕ → ℕ → List ℕ
marking ws k = set ws (k / 64) (bit_or (get_or ws (k / 64) 0) (2 ^ (k % 64)))
