-- Document 01, "Rules of change": near accesses, removal, swap and insertion, for any type E of events that the rules see through
-- `view`; and moves and runs, by these or any other rules. What came before an event, and what comes after it, is listed nearest first.
-- Assumes nothing.
use Rattle.std.specs.Prelude.{◌≡◌, ◌⊎◌, true, false, cond, ℕ, T, eqb}
use Rattle.std.proofs.Math.Option.{Option, none, some, map}
use mathlib.Core.List.{List, [], ◌∷◌, head?}
use Rattle.rules.specs.View.{View, wall, load, store, value_of, apart}

-- There is an access, of the value v.
abbrev pub Holds : ℕ → Option View → Type 0
Holds v none = ⊥
Holds v (some x) = value_of x ≡ v

-- There is an access, a store.
abbrev pub Stores : Option View → Type 0
Stores none = ⊥
Stores (some wall) = ⊥
Stores (some (load p v u)) = ⊥
Stores (some (store p v)) = Unit {0}

-- A group with one more event in front: a wall ends it, an access to its location joins it.
abbrev pub extend : {E : Type 0} → ℕ → View → E → List E → List E
extend l wall e g = []
extend l (load p v u) e g = cond (eqb l p) (e ∷ g) g
extend l (store p v) e g = cond (eqb l p) (e ∷ g) g

-- Rules of change: what may be removed between what came before and what comes after, what may be inserted behind what came before, and
-- which two adjacent events may be swapped.
pub record Rules (E : Type 0) : Type 1 where
  pub Removes : List E → E → List E → Type 0
  pub Inserts : List E → E → Type 0
  pub Swaps : E → E → Type 0

module _ {E : Type 0} (view : E → View) where
  -- The accesses to a location up to the first synchronising event.
  abbrev pub group : ℕ → List E → List E
  group l [] = []
  group l (e ∷ s) = extend l (view e) e (group l s)

  -- The near access to a location: the first of these.
  abbrev pub near : ℕ → List E → Option View
  near l s = map view (head? (group l s))

  -- Removal of what is seen as the second argument, between what came before and what comes after.
  abbrev pub Removable : List E → View → List E → Type 0
  Removable b wall a = ⊥
  Removable b (load p v true) a = Holds v (near p b)  -- RaR, RaW
  Removable b (load p v false) a = Unit {0}  -- it is `unused`
  Removable b (store p v) a = Holds v (near p b) ⊎ Stores (near p a)  -- WaR, WaW; OW

  -- Insertion of what is seen, behind what came before.
  abbrev pub Insertable : List E → View → Type 0
  Insertable b wall = ⊥
  Insertable b (load p v u) = Holds v (near p b)
  Insertable b (store p v) = ⊥

  -- Swap of two adjacent events.
  abbrev pub Swappable : E → E → Type 0
  Swappable e f = T (apart (view e) (view f))

  -- Document 01's rules; only what is new is inserted.
  abbrev pub rules : (E → Type 0) → Rules E
  rules new = record {
    Removes = λ b e a. Removable b (view e) a;
    Inserts = λ b e. new e × Insertable b (view e);
    Swaps = Swappable;
  }

-- Removals and swaps come first, insertions and swaps after.
pub data Phase : Type 0 where
  one two : Phase

module _ {E : Type 0} (may : Rules E) where
  -- One move of a phase, behind the events b: here, or further on.
  pub data Move : Phase → List E → List E → List E → Type 0 where
    remove : {b a : List E} {e : E} → may.Removes b e a → Move one b (e ∷ a) a
    insert : {b a : List E} {e : E} → may.Inserts b e → Move two b a (e ∷ a)
    swap : {φ : Phase} {b a : List E} {e f : E} → may.Swaps e f → Move φ b (e ∷ f ∷ a) (f ∷ e ∷ a)
    next : {φ : Phase} {b s t : List E} {e : E} → Move φ (e ∷ b) s t → Move φ b (e ∷ s) (e ∷ t)

  -- Moves of a phase, one after the other, each on the trace as it stands.
  pub data Moves (φ : Phase) (b : List E) : List E → List E → Type 0 where
    done : {s : List E} → Moves φ b s s
    step : {s t u : List E} → Move φ b s t → Moves φ b t u → Moves φ b s u

  -- A trace that moves come by: the one that they begin with, or one that comes later.
  abbrev pub By : List E → {φ : Phase} {b s t : List E} → Moves φ b s t → Type 0
  By x (done {s = s}) = x ≡ s
  By x (step {s = s} m r) = (x ≡ s) ⊎ By x r

  -- A run: the trace in the middle has lost what is removed, and nothing is inserted yet.
  abbrev pub Run : List E → List E → Type 0
  Run s t = (m : List E) × Moves one [] s m × Moves two [] m t
