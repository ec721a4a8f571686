-- Document 01, answer 5, and document 02, C-16: which events use a location, and which clash. Assumes nothing.
use Rattle.std.specs.Prelude.{ℕ, Bool, false, ◌&&◌, ◌||◌, List, [], ◌∷◌, eqb}
use Rattle.kinds.specs.Kind.{plain, atomic}
use Rattle.memory.specs.Listed.{uses_atomically}
use Rattle.event.specs.declared.Event.{Event}

-- Whether some event of a list is of a class and at a location.
unfoldable pub uses : (Event → Bool) → ℕ → List Event → Bool
uses class l [] = false
uses class l (e ∷ es) = (class e && eqb e.place l) || uses class l es

-- Whether an event clashes with an earlier one: one is plain and the other atomic, at one location.
abbrev pub clashes : List Event → Event → Bool
clashes before e = (plain e && uses atomic e.place before) || (atomic e && uses plain e.place before)

-- Under a list an atomic use of a listed location clashes by itself.
abbrev pub clashes_in : List Bool → List Event → Event → Bool
clashes_in regs before e = uses_atomically regs e || clashes before e
