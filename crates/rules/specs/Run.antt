-- Document 01, "Rules of change" and demand 3: what it means that a run realises a matching. An event is known by its number in the
-- source, never by its looks. Assumes nothing.
use Rattle.std.specs.Prelude.{◌≡◌, cond, List, [], ◌∷◌, ℕ, suc, T, eqb}
use Rattle.kinds.specs.Kind.{lawful}
use Rattle.event.specs.declared.Event.{Event}
use Rattle.rules.specs.View.{View, same}
use Rattle.rules.specs.Moves.{Rules, Run, rules}

-- Where an event of a run comes from: it is the source event of a number, or it is inserted, to become the target event of a number.
pub data Tag : Type 0 where
  old new : (number : ℕ) → Tag

-- An event of a run, with where it comes from.
pub data Traced : Type 0 where
  traced : Tag → Event → Traced

-- Its tag, and the event itself.
abbrev pub tag_of : Traced → Tag
tag_of (traced g e) = g

abbrev pub event_of : Traced → Event
event_of (traced g e) = e

-- What may be inserted where the rules allow it (they allow only loads): a lawful event that the source does not have.
abbrev pub Inserted : Traced → Type 0
Inserted (traced (old i) e) = ⊥
Inserted (traced (new n) e) = T (lawful e)

-- The source, each event with its number; the first has the number i.
abbrev pub number : ℕ → List Event → List Traced
number i [] = []
number i (e ∷ s) = traced (old i) e ∷ number (suc i) s

-- Where the target event of number k comes from, by entries that begin at the number i: the first event kept at k, or it is inserted.
abbrev pub origin : ℕ → ℕ → List ℕ → Tag
origin k i [] = new k
origin k i (n ∷ ns) = cond (eqb k n) (old i) (origin k (suc i) ns)

-- A trace is the target from the number k on: each event the same, marks apart, and from where the entries say.
abbrev pub Ends : List ℕ → ℕ → List Traced → List Event → Type 0
Ends ns k [] [] = Unit {0}
Ends ns k [] (e ∷ t) = ⊥
Ends ns k (x ∷ u) [] = ⊥
Ends ns k (x ∷ u) (e ∷ t) = (tag_of x ≡ origin k 1 ns) × T (same (event_of x) e) × Ends ns (suc k) u t

module _ (view : Event → View) where
  -- What the rules see of it.
  abbrev pub viewed : Traced → View
  viewed x = view (event_of x)

  -- The rules of change, for such events.
  abbrev pub changes : Rules Traced
  changes = rules viewed Inserted

  -- A run from the source ends at the target, every kept event at its number and every gone one removed.
  unfoldable pub Realises : List Event → List Event → List ℕ → Type 0
  Realises s t ns = (u : List Traced) × Run changes (number 1 s) u × Ends ns 1 u t
