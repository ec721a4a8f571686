-- Document 02, C-19, the shortened trace: which events stay, the trace that they make, and the entries of the long trace's matching. What came before an
-- event, and what comes after it, is listed nearest first. Assumes nothing.
use Rattle.std.specs.Prelude.{Bool, true, false, not, cond, ◌&&◌, ◌||◌, List, [], ◌∷◌, map, ℕ, suc, eqb}
use Rattle.std.proofs.Math.Option.{Option, none, some}
use Rattle.event.specs.declared.Event.{Event}
use Rattle.rules.specs.View.{View, wall, load, store, view_in}
use Rattle.rules.specs.Fault.{is_none}

-- The earlier of an access, if there is one, and the next.
abbrev pub elder : Option View → View → Option View
elder none v = some v
elder (some w) v = some w

-- The first access to a location since the last synchronising event.
abbrev pub first : ℕ → List View → Option View
first l [] = none
first l (wall ∷ b) = none
first l (load p v u ∷ b) = cond (eqb l p) (elder (first l b) (load p v u)) (first l b)
first l (store p v ∷ b) = cond (eqb l p) (elder (first l b) (store p v)) (first l b)

-- A store to a location comes before the next synchronising event.
abbrev pub stored : ℕ → List View → Bool
stored l [] = false
stored l (wall ∷ a) = false
stored l (load p v u ∷ a) = stored l a
stored l (store p v ∷ a) = eqb l p || stored l a

-- There is an access, a load of the value v, of either mark.
abbrev pub loaded : ℕ → Option View → Bool
loaded v none = false
loaded v (some wall) = false
loaded v (some (load p w u)) = eqb w v
loaded v (some (store p w)) = false

-- Synchronising events stay. A load stays if it is used and the first access. A store stays if it is the last one, unless the first access is a
-- load of its value.
abbrev pub stays : List View → View → List View → Bool
stays b wall a = true
stays b (load p v u) a = u && is_none (first p b)
stays b (store p v) a = not (stored p a) && not (loaded v (first p b))

-- Of each event of a trace, behind b, whether it stays.
abbrev pub flags : List View → List View → List Bool
flags b [] = []
flags b (v ∷ a) = stays b v a ∷ flags (v ∷ b) a

-- What is flagged, in its order.
abbrev pub pick : {A : Type 0} → List Bool → List A → List A
pick [] s = []
pick (c ∷ cs) [] = []
pick (c ∷ cs) (e ∷ s) = cond c (e ∷ pick cs s) (pick cs s)

-- What is flagged is numbered from k on; 0 is gone.
abbrev pub numbers : ℕ → List Bool → List ℕ
numbers k [] = []
numbers k (c ∷ cs) = cond c (k ∷ numbers (suc k) cs) (0 ∷ numbers k cs)

module _ {E : Type 0} (view : E → View) where
  -- Which events of a trace stay.
  abbrev pub marks : List E → List Bool
  marks s = flags [] (map view s)

  -- The shortened trace, and the entries of the matching from the long one to it.
  abbrev pub short : List E → List E
  short s = pick (marks s) s

  abbrev pub entries : List E → List ℕ
  entries s = numbers 1 (marks s)

-- Under a list of registers, whose accesses synchronise, and so stay.
abbrev pub short_in : List Bool → List Event → List Event
short_in regs s = short (view_in regs) s

abbrev pub names_in : List Bool → List Event → List ℕ
names_in regs s = entries (view_in regs) s
