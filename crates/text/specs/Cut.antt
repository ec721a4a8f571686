-- Document 01, "Trace text": "Lines end in LF; fields are parted by one tab." What the two have in common is here, over the byte s at which a text is
-- cut. Assumes nothing.
use Rattle.std.specs.Prelude.{ℕ, suc, Bool, true, false, cond, List, [], ◌∷◌, ◌++◌, eqb, ltb, length, drop}

-- Whether there is nothing.
abbrev pub is_empty : {A : Type 0} → List A → Bool
is_empty [] = true
is_empty (x ∷ l) = false

-- How many bytes come before the first s, or the end.
unfoldable pub until : ℕ → List ℕ → ℕ
until s [] = 0
until s (b ∷ l) = cond (eqb b s) 0 (suc (until s l))

-- A byte put in front of the first part.
abbrev pub on_first : ℕ → List (List ℕ) → List (List ℕ)
on_first b [] = (b ∷ []) ∷ []
on_first b (p ∷ ps) = (b ∷ p) ∷ ps

-- A text cut at each s: the parts between, never none; the last is what stands after the last s.
unfoldable pub cut : ℕ → List ℕ → List (List ℕ)
cut s [] = [] ∷ []
cut s (b ∷ l) = cond (eqb b s) ([] ∷ cut s l) (on_first b (cut s l))

-- The parts that start at a place or after it: none if the place lies beyond the end.
unfoldable pub cut_from : ℕ → List ℕ → ℕ → List (List ℕ)
cut_from s l at = cond (ltb (length l) at) [] (cut s (drop at l))

-- Parts with one s between each two.
unfoldable pub glue : ℕ → List (List ℕ) → List ℕ
glue s [] = []
glue s (p ∷ []) = p
glue s (p ∷ q ∷ ps) = p ++ s ∷ glue s (q ∷ ps)
