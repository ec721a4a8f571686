-- The judge's small decisions: what it asks of an event, of the cells at its location and of its entry; and what its flags say.
-- Assumes nothing.
use Rattle.std.specs.Prelude.{◌≡◌, Bool, false, not, cond, ◌&&◌, ◌||◌, List, ℕ, ◌+◌, ◌-◌, ◌<◌, eqb, ltb, get_or, drop, Option, None, Some}
use Rattle.std.proofs.Math.Option.{Option as Maybe, none, some}
use Rattle.event.specs.Room.{event_at, onward, capacity}
use Rattle.rules.specs.View.{View, wall, load, store, view_in, is_wall}
use Rattle.rules.specs.Fault.{Item, closing, fate, group, is, is_gone, unlike}
use Rattle.fates.specs.declared.source.Cell.{Cell}
use Rattle.fates.specs.declared.source.Tops.{Tops}
use Rattle.event.specs.declared.Event.{Event}
use Rattle.rules.specs.Verdict.{first_fault, items}

-- whether a store before a plain event is closing, by whether one after the event is
abbrev pub closing_after : Bool → ℕ → Bool → Bool
closing_after is_load n closing = is_load && (not (is_gone n) || closing)

-- the events of a room from an index on, with their entries, under a list
abbrev pub items_from : List Bool → List ℕ → List ℕ → ℕ → List Item
items_from regs l ns i = items (view_in regs) (onward l i (capacity l - i)) (drop i ns)

-- whether a store at the index, to the location of the event there, is closing
abbrev pub closing_at : List Bool → List ℕ → List ℕ → ℕ → Bool
closing_at regs l ns i = closing (group (event_at l i).place (items_from regs l ns (i + 1)))

-- whether a plain event becomes the witness of its location
abbrev pub takes_over : Bool → ℕ → Bool → Bool
takes_over is_load n fresh = not (is_gone n) || (is_load && fresh)

-- the larger of two numbers
abbrev pub larger : ℕ → ℕ → ℕ
larger n g = cond (ltb g n) n g

-- the greatest target number so far after an entry
abbrev pub top_after : ℕ → ℕ → ℕ
top_after n top = cond (is_gone n) top (larger n top)

-- the flags say of each event whether a store there is closing
abbrev pub Flagged : List Bool → List Bool → List ℕ → List ℕ → Type 0
Flagged regs flags l ns = (i : ℕ) → i < capacity l → get_or flags i false ≡ closing_at regs l ns i

-- what the code makes of its numbers and tests
abbrev pub cell_of : Bool → Bool → Cell
cell_of fresh closing = record { fresh = fresh; closing = closing }

abbrev pub tops_of : ℕ → ℕ → ℕ → Tops
tops_of all walls here = record { all = all; walls = walls; here = here }

-- a location's witness, as the rules have it
abbrev pub witnessed : Option ℕ → Maybe ℕ
witnessed None = none
witnessed (Some value) = some value

-- the fault of a number, which 0 is not
abbrev pub fault_of : ℕ → Option ℕ
fault_of k = cond (eqb k 0) None (Some k)

-- 13 or 14 of a gone event, or 0
abbrev pub gone_fault : View → Cell → Maybe ℕ → ℕ
gone_fault wall c o = 0
gone_fault (load p v u) c o = cond (u && c.fresh) 13 0
gone_fault (store p v) c o = cond (c.closing && not (is v o)) 14 0

-- 12 of a kept event
abbrev pub crossed_by : View → ℕ → Tops → Bool
crossed_by v n t = cond (is_wall v) (ltb n t.all) (ltb n t.walls || ltb n t.here)

-- 10 to 12 of a source event, or 0
abbrev pub keep_fault_by : List Event → Event → View → ℕ → Tops → ℕ
keep_fault_by t e v n s = cond (is_gone n) (cond (is_wall v) 11 0) (cond (unlike t e (fate n)) 10 (cond (crossed_by v n s) 12 0))

-- 13 or 14 of a source event, or 0
abbrev pub removal_fault_by : View → ℕ → Cell → Maybe ℕ → ℕ
removal_fault_by v n c o = cond (is_gone n) (gone_fault v c o) 0

-- 10 to 14 of a source event, or 0
abbrev pub source_fault_by : List Event → Event → View → ℕ → Cell → Maybe ℕ → Tops → ℕ
source_fault_by t e v n c o s = first_fault (keep_fault_by t e v n s) (removal_fault_by v n c o)
