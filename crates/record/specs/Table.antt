-- A table of words as it lies in the code, a word's number being its row. Assumes nothing.
use Rattle.std.specs.Prelude.{ℕ, ◌%◌, List, get_or, take, drop}

-- The word of a row, which has eight bytes: the length of the word, the word, and blanks.
abbrev pub word_in : List ℕ → List ℕ
word_in row = take (get_or row 0 0 % 8) (drop 1 row)
