-- Document 01, P3: what would be accepted if events were known by their looks, and not by their source numbers. It is no part of demand 3: it shows why
-- its runs carry the numbers. Assumes nothing.
use Rattle.std.specs.Prelude.{List, [], ◌∷◌, T}
use Rattle.kinds.specs.Kind.{load, made, used}
use Rattle.event.specs.declared.Event.{Event}
use Rattle.rules.specs.View.{same, view}
use Rattle.rules.specs.Moves.{Run}
use Rattle.rules.specs.Run.{Traced, event_of, number, changes}

-- A trace looks like the target: each event the same, marks apart, wherever it comes from.
abbrev pub LooksLike : List Traced → List Event → Type 0
LooksLike [] [] = Unit {0}
LooksLike [] (e ∷ t) = ⊥
LooksLike (x ∷ u) [] = ⊥
LooksLike (x ∷ u) (e ∷ t) = T (same (event_of x) e) × LooksLike u t

-- A run from the source ends at a trace that looks like the target, whatever the matching says.
abbrev pub RealisedByLooks : List Event → List Event → Type 0
RealisedByLooks s t = (u : List Traced) × Run (changes view) (number 1 s) u × LooksLike u t

-- P3: two loads, of which one is left.
abbrev pub a_load : Event
a_load = made load 1 used 0 0 0

abbrev pub two_loads : List Event
two_loads = a_load ∷ a_load ∷ []

abbrev pub one_load : List Event
one_load = a_load ∷ []
