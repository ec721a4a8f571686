-- Document 01, "Latest value", and document 02, C-13 and C-17: the memory takes one event at a time and hands back the memory after it. Assumes nothing.
use Rattle.std.specs.Prelude.{ℕ, ◌+◌, ◌%◌, ◌^◌, Bool, true, false, cond, List, replicate, ◌==◌, slice_index, slice_set}
use Rattle.event.specs.Limit.{places}
use Rattle.kinds.specs.Kind.{row, bits_of, lawful}
use Rattle.kinds.specs.declared.Width.{Width}
use Rattle.kinds.specs.declared.Sets.{Sets}
use Rattle.kinds.specs.declared.Sets.TheVariants.{Nothing, First, Second, Sum}
use Rattle.event.specs.declared.Event.{Event}
use Rattle.memory.specs.declared.Memory.{Memory}
use Rattle.memory.specs.declared.Stepped.{Stepped}

-- the starting memory before the first line is read: a cell for each location, all 0
abbrev pub empty : Memory
empty = record { cells = replicate places 0 }

-- the sum of two numbers as a counter of some width has it
abbrev pub wrap_sum : ℕ → ℕ → ℕ → ℕ
wrap_sum width a b = (a + b) % 2 ^ width

-- what is left in a cell that held `was`, by what is set, the width and the values: `store` and `astore` set the value, `rmw` sets new, `add` and
-- `add64` set old plus operand as a counter of their width has it, modulo 2^32 and modulo 2^64; what only reads sets nothing
abbrev pub leaves : Sets → Width → ℕ → ℕ → ℕ → ℕ
leaves Nothing w was first second = was
leaves First w was first second = first
leaves Second w was first second = second
leaves Sum w was first second = wrap_sum (bits_of w) first second

-- what an event leaves in its cell
abbrev pub left : ℕ → Event → ℕ
left was e = leaves (row e.kind).sets (row e.kind).width was e.first e.second

-- the cells after it
unfoldable pub after : List ℕ → Event → List ℕ
after l e = slice_set l e.place (left (slice_index l e.place) e)

-- each load, `aload`, `cmpfail` and old value must equal the cell before the event
abbrev pub reads : ℕ → Event → Bool
reads was e = cond (row e.kind).reads (e.first == was) true

unfoldable pub latest : List ℕ → Event → Bool
latest l e = reads (slice_index l e.place) e

-- the memory after an event, and whether its value is the latest; an event outside the layout changes nothing and is not
unfoldable pub stepped : Memory → Event → Stepped
stepped m e =
    cond (lawful e)
    (record { memory = record { cells = after m.cells e }; right = latest m.cells e })
    (record { memory = m; right = false })
