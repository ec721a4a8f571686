-- Document 01, "Trace text": a field that a line has or has not, taken at a place of the line; and an `init` line by the two fields that the reader
-- hands out, each with the place behind it. Assumes nothing.
use Rattle.std.specs.Prelude.{ℕ, ◌+◌, ◌-◌, ◌≤◌, Bool, true, false, Option, Some, None, option_map, List, length, take, drop}
use Rattle.event.specs.Limit.{last_place}
use Rattle.kinds.specs.Kind.{last_value}
use Rattle.text.specs.Field.{field_at, fields_from, on_end}
use Rattle.text.specs.Take.{taken, number_in, take_number}
use Rattle.text.specs.declared.field.Field.{Field}
use Rattle.text.specs.declared.take.Taken.{Taken}
use Rattle.record.specs.Layout.{order_of}
use Rattle.record.specs.declared.Record.{Record}
use Rattle.record.specs.declared.Record.TheVariants.{Init}

-- A number field that is there or not; where it is not, the number is 0 and no field is passed.
unfoldable pub number_part : Bool → List ℕ → ℕ → ℕ → Option Taken
number_part false line at max = Some (taken 0 at)
number_part true line at max = take_number line at max

-- The order or mark of a field, with the place behind it.
abbrev pub order_in : List ℕ → Field → Taken
order_in line f = taken (order_of (take (f.to - f.from) (drop f.from line))) (f.to + 1)

-- An order or a mark that is there or not; where it is not, the number is the one in hand.
unfoldable pub order_part : Bool → List ℕ → ℕ → ℕ → Option Taken
order_part false line at other = Some (taken other at)
order_part true line at other = option_map (order_in line) (field_at line at)

-- A field that stands within a line.
abbrev pub Within : List ℕ → Field → Type 0
Within line f = (f.from ≤ f.to) × (f.to ≤ length line)

-- What was taken to go on with; nothing: refused.
abbrev pub on_part : Option Taken → (Taken → Option Record) → Option Record
on_part (Some t) k = k t
on_part None k = None

-- An `init` line by its two fields: location, value, and nothing more.
unfoldable pub init_of : List ℕ → Field → Field → Option Record
init_of line place value =
    on_part (number_in line last_place place) (λ p.
    on_part (number_in line last_value value) (λ v.
    on_end None (fields_from line v.next) (Some (Init p.value v.value))))
