-- A gone event is the source's, and its number that of its index. Assumes nothing.
use mathlib.Core.Path.{◌≡◌, refl}
use mathlib.Core.Bool.{Bool, true, false, cond, false≢true}
use Prim.Native.Nat.{ℕ, zero, suc, ◌-◌, ◌<◌}
use mathlib.Core.List.{List, [], ◌∷◌}
use lib.Dec.{ltb}
use native.Mathlib.Omega.{arith}
use lib.ListN.{get_or, length}
use borrow.Author.Tests.{ltb-true}
use Rattle.event.specs.declared.Event.{Event}
use Rattle.rules.specs.Run.{old, new}
use Rattle.changes.specs.Tags.{decoded, trace}
use Rattle.course.specs.Step.{leaves, number_at, source_number}
use Rattle.event.specs.Limit.{event_limit}

-- a gone event is the source's
pub leaving_old : (ns : List ℕ) (k : ℕ) → leaves ns (decoded k) ≡ true → (k < event_limit) × (source_number (decoded k) ≡ suc k)
leaving_old ns k h = go (ltb k event_limit) refl h
  where
    go : (c : Bool) → ltb k event_limit ≡ c → leaves ns (cond c (old (suc k)) (new (suc (k - event_limit)))) ≡ true
        → (k < event_limit) × (source_number (cond c (old (suc k)) (new (suc (k - event_limit)))) ≡ suc k)
    go true e h = (ltb-true k event_limit e, refl)
    go false e h = absurd (false≢true h)

-- the source number at an index
pub number_at_lem : (s t : List Event) (ks : List ℕ) (i : ℕ) → i < length ks → number_at (trace s t ks) i ≡ source_number (decoded (get_or ks i 0))
number_at_lem s t [] i h = absurd (omega arith)
number_at_lem s t (k ∷ ks) zero h = refl
number_at_lem s t (k ∷ ks) (suc i) h = number_at_lem s t ks i (omega arith)
