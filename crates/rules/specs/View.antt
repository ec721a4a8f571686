-- Document 01, "Rules of change", and document 02, C-16: what the rules see of an event, plain or synchronising. Assumes nothing.
use Rattle.std.specs.Prelude.{Bool, true, false, not, cond, ◌&&◌, ◌||◌, List, ℕ, eqb}
use Rattle.std.proofs.Math.Option.{Option, none, some}
use Rattle.kinds.specs.Kind.{used, row, plain, is_load_kind}
use Rattle.memory.specs.Listed.{is_register}
use Rattle.event.specs.declared.Event.{Event}

-- A plain event is a load, which says whether its value is used, or a store; every synchronising event is a wall.
pub data View : Type 0 where
  wall : View
  load : (place value : ℕ) (used : Bool) → View
  store : (place value : ℕ) → View

-- The one function through which the rules see an event: of the plain ones those that read are loads, the others stores.
abbrev pub view : Event → View
view e =
    cond (plain e)
    (cond (row e.kind).reads (load e.place e.first (eqb e.order used)) (store e.place e.first))
    wall

-- The same under a list: "A plain access to a listed location counts as synchronising everywhere".
abbrev pub view_in : List Bool → Event → View
view_in regs e = cond (is_register regs e) wall (view e)

-- It synchronises; it is a load.
abbrev pub is_wall : View → Bool
is_wall wall = true
is_wall (load p v u) = false
is_wall (store p v) = false

abbrev pub is_load : View → Bool
is_load wall = false
is_load (load p v u) = true
is_load (store p v) = false

-- The location of a plain event; a synchronising one has none here.
abbrev pub place_of : View → Option ℕ
place_of wall = none
place_of (load p v u) = some p
place_of (store p v) = some p

-- The value that a plain event reads or writes.
abbrev pub value_of : View → ℕ
value_of wall = 0
value_of (load p v u) = v
value_of (store p v) = v

-- There are two locations, and they differ.
abbrev pub differ : Option ℕ → Option ℕ → Bool
differ none q = false
differ (some p) none = false
differ (some p) (some q) = not (eqb p q)

-- Two plain events at different locations.
abbrev pub apart : View → View → Bool
apart v w = differ (place_of v) (place_of w)

-- Two events are the same, the marks of loads and the code lines apart.
abbrev pub same : Event → Event → Bool
same e f =
    eqb e.kind f.kind
    && (eqb e.place f.place
    && (eqb e.first f.first
    && (eqb e.second f.second
    && (is_load_kind e.kind || eqb e.order f.order))))
