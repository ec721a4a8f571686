-- The fixed order of a run, by any rules: which events are gone and which stand above which by their target numbers are parameters too. Only
-- definitions. Assumes nothing.
use mathlib.Core.List.{List, [], ◌∷◌}
use Rattle.laws.proofs.Lists.{Each}
use Rattle.rules.specs.Moves.{Rules}

module _ {E : Type 0} (may : Rules E) (Gone : E → Type 0) where
  -- no gone event may be removed
  abbrev pub Still : List E → List E → Type 0
  Still b [] = Unit {0}
  Still b (e ∷ a) = (Gone e → may.Removes b e a → ⊥) × Still (e ∷ b) a

  -- the last gone event that may be removed is
  pub data Last : List E → List E → List E → Type 0 where
    out : {b a : List E} {e : E} → Still (e ∷ b) a → Gone e → may.Removes b e a → Last b (e ∷ a) a
    under : {b s t : List E} {e : E} → Last (e ∷ b) s t → Last b (e ∷ s) (e ∷ t)

  -- as long as there is one
  pub data Lasts : List E → List E → Type 0 where
    end : {s : List E} → Still [] s → Lasts s s
    more : {s t u : List E} → Last [] s t → Lasts t u → Lasts s u

module _ {E : Type 0} (Above : E → E → Type 0) where
  -- no event is above the next
  abbrev pub Calm : List E → Type 0
  Calm [] = Unit {0}
  Calm (e ∷ []) = Unit {0}
  Calm (e ∷ f ∷ s) = (Above e f → ⊥) × Calm (f ∷ s)

  -- the first event that is above the next is swapped with it
  pub data Low : List E → List E → Type 0 where
    low : {e f : E} {a : List E} → Above e f → Low (e ∷ f ∷ a) (f ∷ e ∷ a)
    after : {e f : E} {s t : List E} → (Above e f → ⊥) → Low (f ∷ s) t → Low (e ∷ f ∷ s) (e ∷ t)

  -- as long as there is one
  pub data Lows : List E → List E → Type 0 where
    calm : {s : List E} → Calm s → Lows s s
    again : {s t u : List E} → Low s t → Lows t u → Lows s u

module _ {E : Type 0} (may : Rules E) where
  -- what may be inserted is, from the front on
  pub data Fill : List E → List E → List E → Type 0 where
    full : {b : List E} → Fill b [] []
    leave : {b s t : List E} {e : E} → Fill (e ∷ b) s t → Fill b (e ∷ s) (e ∷ t)
    put : {b s t : List E} {e : E} → may.Inserts b e → Fill (e ∷ b) s t → Fill b s (e ∷ t)

  module _ (Above : E → E → Type 0) where
    -- an event that stands above a later one may be swapped with it
    abbrev pub Clash : E → E → Type 0
    Clash e f = Above e f → may.Swaps e f

    abbrev pub Orderly : List E → Type 0
    Orderly [] = Unit {0}
    Orderly (e ∷ s) = Each (Clash e) s × Orderly s

-- removing, then sorting, then inserting
pub record InOrder {E : Type 0} (may : Rules E) (Gone : E → Type 0) (Above : E → E → Type 0) (s t : List E) : Type 0 where
  pub kept : List E
  pub sorted : List E
  pub removing : Lasts may Gone s kept
  pub sorting : Lows Above kept sorted
  pub inserting : Fill may [] sorted t
