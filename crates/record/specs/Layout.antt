-- Document 01, "Trace text", and document 02, C-11, C-13 and C-17: the words of a line, and the line of an event, from the table of kinds. Assumes nothing.
use Rattle.std.specs.Prelude.{ℕ, suc, Bool, true, false, cond, List, [], ◌∷◌, leb, get_or}
use Rattle.kinds.specs.Kind.{row, is_marks}
use Rattle.event.specs.declared.Event.{Event}
use Rattle.kinds.specs.declared.Orders.{Orders}
use Rattle.kinds.specs.declared.Orders.TheVariants.{Bare, Marks, Reads, Writes, Updates, Fences, NoKind}
use Rattle.kinds.specs.declared.Place.{Place}
use Rattle.kinds.specs.declared.Place.TheVariants.{Location, Mutex, Nowhere}
use Rattle.record.specs.Form.{coded}
use Rattle.record.specs.declared.form.Form.{Form}
use Rattle.record.specs.declared.shape.Shape.{Shape}
use Rattle.text.specs.Field.{join}
use Rattle.text.specs.Number.{decimal}
use Rattle.text.specs.Word.{bytes, same_bytes}

-- The words of the kinds, by their numbers.
abbrev pub kind_words : List (List ℕ)
kind_words =
    bytes "load"  -- 1
    ∷ bytes "store"  -- 2
    ∷ bytes "aload"  -- 3
    ∷ bytes "astore"  -- 4
    ∷ bytes "rmw"  -- 5
    ∷ bytes "add"  -- 6
    ∷ bytes "fence"  -- 7
    ∷ bytes "lock"  -- 8
    ∷ bytes "unlock"  -- 9
    ∷ bytes "add64"  -- 10
    ∷ bytes "cmpfail"  -- 11
    ∷ []

-- The words of the orders and marks, by their numbers.
abbrev pub order_words : List (List ℕ)
order_words =
    bytes "rlx"  -- 1
    ∷ bytes "acq"  -- 2
    ∷ bytes "rel"  -- 3
    ∷ bytes "ar"  -- 4
    ∷ bytes "sc"  -- 5
    ∷ bytes "used"  -- 6
    ∷ bytes "unused"  -- 7
    ∷ []

-- The word of a starting value.
abbrev pub init_word : List ℕ
init_word = bytes "init"

-- The word of a number, counted from 1; none for another number.
abbrev pub word_at : List (List ℕ) → ℕ → List ℕ
word_at ws n = get_or ([] ∷ ws) n []

-- The number of a word, where the first of the list has the number n; 0 for a word that is not in it.
unfoldable pub number_in : ℕ → List (List ℕ) → List ℕ → ℕ
number_in n [] w = 0
number_in n (v ∷ vs) w = cond (same_bytes w v) n (number_in (suc n) vs w)

-- The number of a kind's word, and of an order's or a mark's; 0 for another word.
abbrev pub kind_of : List ℕ → ℕ
kind_of w = number_in 1 kind_words w

abbrev pub order_of : List ℕ → ℕ
order_of w = number_in 1 order_words w

-- Whether the line has a location or a mutex.
abbrev pub has_place : Place → Bool
has_place Location = true
has_place Mutex = true
has_place Nowhere = false

-- Whether the line has an order, before its values.
abbrev pub has_order : Orders → Bool
has_order Bare = false
has_order Marks = false
has_order Reads = true
has_order Writes = true
has_order Updates = true
has_order Fences = true
has_order NoKind = false

-- Which fields the line of a kind has after its word, in a form.
abbrev pub shape_of : Form → ℕ → Shape
shape_of f k = record {
  place = has_place (row k).place;
  order = has_order (row k).orders;
  first = leb 1 (row k).values;
  second = leb 2 (row k).values;
  mark = is_marks (row k).orders;
  code = coded f;
}

-- The fields of an event's line after its word, each with whether it is there: its place, its order, its values, its mark,
-- its code line.
abbrev pub parts : Shape → Event → List (Bool × List ℕ)
parts s e =
    (s.place, decimal e.place)
    ∷ (s.order, word_at order_words e.order)
    ∷ (s.first, decimal e.first)
    ∷ (s.second, decimal e.second)
    ∷ (s.mark, word_at order_words e.order)
    ∷ (s.code, decimal e.code)
    ∷ []

-- A field that is there or not.
abbrev pub field_if : Bool → List ℕ → List (List ℕ) → List (List ℕ)
field_if true f fs = f ∷ fs
field_if false f fs = fs

-- The fields that are there.
abbrev pub there : List (Bool × List ℕ) → List (List ℕ)
there [] = []
there (p ∷ ps) = field_if p.0 p.1 (there ps)

-- The fields of an event's line.
unfoldable pub event_fields : Form → Event → List (List ℕ)
event_fields f e = word_at kind_words e.kind ∷ there (parts (shape_of f e.kind) e)

-- The line of an event.
unfoldable pub event_line : Form → Event → List ℕ
event_line f e = join (event_fields f e)

-- The line of a location's starting value.
unfoldable pub init_line : ℕ → ℕ → List ℕ
init_line place value = join (init_word ∷ decimal place ∷ decimal value ∷ [])
