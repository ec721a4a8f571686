-- Document 01, "Numbers that come back": a text is tried for 1, then line by line, and whatever else its reading asks comes after that; "no final LF,
-- or empty text" is 2. What differs from text to text is its layout. Assumes nothing.
use Rattle.std.specs.Prelude.{ℕ, ◌+◌, Bool, false, cond, List, [], ◌∷◌, eqb, leb, ltb, length}
use Rattle.event.specs.Answer.{answer, done, first}
use Rattle.event.specs.declared.Answer.{Answer}
use Rattle.text.specs.Cut.{is_empty}
use Rattle.text.specs.Line.{split, body}
use Rattle.text.specs.Word.{same_bytes}

-- A layout of texts: its limit in bytes, its line 1, what is known before line 2 (an S), and, by what is known, a line's refusal (0 for none) and what
-- is known after it.
pub record Layout (S : Type 0) : Type 0 where
  pub limit : ℕ
  pub header : List ℕ
  pub start : S
  pub fault : S → List ℕ → ℕ
  pub next : S → List ℕ → S

-- Whether line 1 is the header, and has a LF.
abbrev pub headed : List ℕ → List (List ℕ) → Bool
headed header [] = false
headed header (l ∷ []) = false
headed header (l ∷ m ∷ ls) = same_bytes l header

-- 1, and 2 at line 1.
unfoldable pub head_fault : ℕ → ℕ → List ℕ → List ℕ → Answer
head_fault side limit header t = cond (ltb limit (length t)) (answer 1 side 0) (cond (headed header (split t)) done (answer 2 side 1))

-- The first refusal of the lines from line k on. After the last LF nothing may stand.
unfoldable pub lines_fault : {S : Type 0} → Layout S → ℕ → ℕ → S → List (List ℕ) → Answer
lines_fault T side k s [] = done
lines_fault T side k s (l ∷ []) = cond (is_empty l) done (answer 2 side k)
lines_fault T side k s (l ∷ m ∷ ls) =
    cond (eqb (T.fault s l) 0) (lines_fault T side (k + 1) (T.next s l) (m ∷ ls)) (answer (T.fault s l) side k)

-- The first refusal of a text: 1, then line by line.
unfoldable pub text_fault : {S : Type 0} → Layout S → ℕ → List ℕ → Answer
text_fault T side t = first (head_fault side T.limit T.header t) (lines_fault T side 2 T.start (body (split t)))

-- What a reading hands back, by its first refusal.
abbrev pub settle : {R : Type 0} → (Answer → R) → Answer → R → R
settle refused a r = cond (eqb a.number 0) r (refused a)

-- What the lines from line k on come to: their first refusal, else what `out` makes of them.
unfoldable pub tried : {S R : Type 0} → Layout S → (Answer → R) → ℕ → ℕ → S → (List (List ℕ) → R) → List (List ℕ) → R
tried T refused side k s out ls = settle refused (lines_fault T side k s ls) (out ls)

-- 17, after the others: n do not fit where there is room for so many.
abbrev pub fitted : {R : Type 0} → (Answer → R) → ℕ → ℕ → ℕ → R → R
fitted refused side n many r = cond (leb n many) r (refused (answer 17 side n))
