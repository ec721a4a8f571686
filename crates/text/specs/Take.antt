-- Document 01, "Numbers that come back": a line is read through a reader that "hands out the next field or says that the line has ended". Here a field
-- that is a number is taken from a place of a line. Assumes nothing.
use Rattle.std.specs.Prelude.{ℕ, ◌+◌, ◌-◌, Bool, Option, option_and_then, option_map, List, take, drop}
use Rattle.text.specs.Cut.{is_empty}
use Rattle.text.specs.Field.{field_at, fields_from}
use Rattle.text.specs.Number.{number_of}
use Rattle.text.specs.declared.field.Field.{Field}
use Rattle.text.specs.declared.take.Taken.{Taken}

abbrev pub taken : ℕ → ℕ → Taken
taken n e = record { value = n; next = e }

-- The number that a field of a line is, at most max, with the place after the TAB.
abbrev pub number_in : List ℕ → ℕ → Field → Option Taken
number_in l max f = option_map (λ n. taken n (f.to + 1)) (number_of max (take (f.to - f.from) (drop f.from l)))

-- The number field that starts at a place of a line, at most max, with the place of the next field.
unfoldable pub take_number : List ℕ → ℕ → ℕ → Option Taken
take_number l at max = option_and_then (number_in l max) (field_at l at)

-- Whether no field starts at a place of a line or after it.
unfoldable pub ends_at : List ℕ → ℕ → Bool
ends_at l at = is_empty (fields_from l at)
