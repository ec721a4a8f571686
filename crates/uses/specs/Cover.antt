-- Document 02, C-15: "every location that an event touches must have an `init` line, and 0 is then a lawful value there". What answer 20 is given for, of
-- an event, and 21, of a line; where zeros are silent neither is given. Assumes nothing.
use Rattle.std.specs.Prelude.{ℕ, ◌+◌, Bool, false, cond, not, ◌&&◌, ◌||◌, List, [], ◌∷◌, eqb, get_or, set}
use Rattle.kinds.specs.Kind.{row, is_location}
use Rattle.event.specs.declared.Event.{Event}
use Rattle.record.specs.Form.{silent}
use Rattle.record.specs.declared.form.Form.{Form}
use Rattle.uses.specs.Use.{uses}

-- A starting value as its line says it: its location, and the value.
abbrev pub Start : Type 0
Start = ℕ × ℕ

-- Whether an event touches its location; a mutex is none.
abbrev pub touches : Event → Bool
touches e = is_location (row e.kind).place

-- Whether some event touches a location.
abbrev pub touched : List Event → ℕ → Bool
touched es l = uses touches l es

-- Whether a location has a line.
unfoldable pub lined : List Start → ℕ → Bool
lined [] l = false
lined (i ∷ is) l = eqb i.0 l || lined is l

-- 20: whether an event touches a location that has no line.
abbrev pub lacks_line : Form → (ℕ → Bool) → Event → Bool
lacks_line f has e = not (silent f 0) && (touches e && not (has e.place))

-- 21: whether a line is one of 0, for a location that no event touches.
abbrev pub is_idle : Form → (ℕ → Bool) → Start → Bool
is_idle f has i = not (silent f 0) && (eqb i.1 0 && not (has i.0))

-- The starting values from a location on, of those that are to have a line.
unfoldable pub starts : (ℕ → ℕ → Bool) → ℕ → List ℕ → List Start
starts has l [] = []
starts has l (v ∷ vs) = cond (has l v) ((l, v) ∷ starts has (l + 1) vs) (starts has (l + 1) vs)

-- The starting values that were read, by the cells and the marks of those that have a line.
abbrev pub marked : List Bool → ℕ → Bool
marked has l = get_or has l false

abbrev pub so_far : List Bool → List ℕ → List Start
so_far has cells = starts (λ l v. marked has l) 0 cells

-- Cells with starting values in them.
abbrev pub filled : List ℕ → List Start → List ℕ
filled cells [] = cells
filled cells (i ∷ is) = filled (set cells i.0 i.1) is
