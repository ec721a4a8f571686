-- Document 01, answer 5: how a location is used, as one number. Assumes nothing.
use Rattle.std.specs.Prelude.{ℕ, Bool, cond, not, ◌&&◌, ◌||◌, List, [], ◌∷◌, eqb, ltb, get_or, set}
use Rattle.event.specs.Limit.{places}
use Rattle.event.specs.declared.Event.{Event}
use Rattle.memory.specs.Listed.{uses_atomically}
use Rattle.kinds.specs.Kind.{row, is_location}

-- 0 not at all, 1 by a plain event, 2 by an atomic one.
unfoldable pub way_of : ℕ → ℕ
way_of kind = cond (is_location (row kind).place) (cond (row kind).sync 2 1) 0

-- Whether one is plain and the other atomic.
unfoldable pub opposed : ℕ → ℕ → Bool
opposed was way = (eqb was 1 && eqb way 2) || (eqb was 2 && eqb way 1)

-- The way after one event more.
unfoldable pub joined : ℕ → ℕ → ℕ
joined was way = cond (eqb way 0) was way

-- By the ways in which the locations were used: whether an event clashes, whether a location was used at all, and the ways after an event.
abbrev pub clashing : List ℕ → Event → Bool
clashing ways e = opposed (get_or ways e.place 0) (way_of e.kind)

abbrev pub is_used : List ℕ → ℕ → Bool
is_used ways l = not (eqb (get_or ways l 0) 0)

abbrev pub ways_after : List ℕ → Event → List ℕ
ways_after ways e = set ways e.place (joined (get_or ways e.place 0) (way_of e.kind))

-- What is at no location neither clashes nor changes the ways; of what is, under a list, an atomic use of a listed one clashes by itself.
abbrev pub clashing_in : List Bool → List ℕ → Event → Bool
clashing_in regs ways e = ltb e.place places && (uses_atomically regs e || clashing ways e)

abbrev pub ways_with : List ℕ → Event → List ℕ
ways_with ways e = cond (ltb e.place places) (ways_after ways e) ways

-- The ways after several.
unfoldable pub ways_of : List ℕ → List Event → List ℕ
ways_of ways [] = ways
ways_of ways (e ∷ es) = ways_of (ways_with ways e) es
