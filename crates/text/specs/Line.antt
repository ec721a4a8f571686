-- Document 01, "Trace text": "Lines end in LF", which is 10. Assumes nothing.
use Rattle.std.specs.Prelude.{ℕ, ◌+◌, cond, Option, Some, None, List, [], ◌∷◌, ◌++◌, ltb, length, drop}
use Rattle.text.specs.Cut.{until, cut, cut_from, glue}

-- How many bytes come before the first LF, or the end.
abbrev pub line_len : List ℕ → ℕ
line_len t = until 10 t

-- Where the line that starts at a place of a text ends, at its LF, or that no LF is left.
unfoldable pub line_at : List ℕ → ℕ → Option ℕ
line_at t at = cond (ltb (at + line_len (drop at t)) (length t)) (Some (at + line_len (drop at t))) None

-- A text split at its LFs; the last part is what stands after the last LF.
abbrev pub split : List ℕ → List (List ℕ)
split t = cut 10 t

-- The lines that start at a place of a text or after it.
abbrev pub split_from : List ℕ → ℕ → List (List ℕ)
split_from t at = cut_from 10 t at

-- The lines after line 1.
abbrev pub body : List (List ℕ) → List (List ℕ)
body [] = []
body (l ∷ ls) = ls

-- What lines say, one after the other, by what a line says. What stands after the last LF is no line.
unfoldable pub said_in : {A : Type 0} → (List ℕ → List A) → List (List ℕ) → List A
said_in says [] = []
said_in says (l ∷ []) = []
said_in says (l ∷ m ∷ ls) = says l ++ said_in says (m ∷ ls)

-- Lines with one LF between each two.
abbrev pub unsplit : List (List ℕ) → List ℕ
unsplit ls = glue 10 ls
