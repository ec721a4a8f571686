-- Document 01, "Trace text": "fields are parted by one tab", which is 9. Lines are cut first, so LF plays no part here. A place is where the next field
-- starts; after a field that ends at `to` it is `to + 1`, and beyond the line's length no field starts. Assumes nothing.
use Rattle.std.specs.Prelude.{ℕ, ◌+◌, cond, Option, Some, None, List, [], ◌∷◌, ltb, length, drop}
use Rattle.text.specs.Cut.{until, cut, cut_from, glue}
use Rattle.text.specs.declared.field.Field.{Field}

-- How many bytes come before the first TAB, or the end.
abbrev pub field_len : List ℕ → ℕ
field_len l = until 9 l

abbrev pub field : ℕ → ℕ → Field
field a b = record { from = a; to = b }

-- The field that starts at a place of a line, or that none does.
unfoldable pub field_at : List ℕ → ℕ → Option Field
field_at l at = cond (ltb (length l) at) None (Some (field at (at + field_len (drop at l))))

-- A line split at its TABs.
abbrev pub fields : List ℕ → List (List ℕ)
fields l = cut 9 l

-- The fields that start at a place of a line or after it.
abbrev pub fields_from : List ℕ → ℕ → List (List ℕ)
fields_from l at = cut_from 9 l at

-- Fields with one TAB between each two.
abbrev pub join : List (List ℕ) → List ℕ
join fs = glue 9 fs

-- The first field and the fields after it, to go on with; no field: refused.
abbrev pub on_field : {R : Type 0} → R → List (List ℕ) → (List ℕ → List (List ℕ) → R) → R
on_field r [] k = r
on_field r (p ∷ ps) k = k p ps

-- The end of a line; a field left over: refused.
abbrev pub on_end : {R : Type 0} → R → List (List ℕ) → R → R
on_end r [] x = x
on_end r (p ∷ ps) x = r
