-- C-12: the steps of a matching in the fixed order, one at a time. Places count from 1 in the trace as it stands. What a step makes of a trace is
-- in `changes`. Assumes nothing.
use Rattle.std.specs.Prelude.{◌≡◌, Bool, true, false, not, cond, ◌&&◌, ◌||◌, List, [], ◌∷◌, ℕ, zero, suc, ◌+◌, eqb, ltb, length, drop}
use Rattle.std.proofs.Math.Option.{Option, none, some}
use Rattle.event.specs.declared.Event.{Event}
use Rattle.rules.specs.View.{View}
use Rattle.rules.specs.Fault.{is_gone, nth}
use Rattle.rules.specs.Run.{Tag, old, new, Traced, tag_of, viewed}
use Rattle.changes.specs.Allowed.{may_remove}
use Rattle.changes.specs.Change.{applied}
use Rattle.changes.specs.declared.Step.{Step}
use Rattle.changes.specs.declared.Step.TheVariants.{Remove, Swap, Insert, Done, Stuck}

-- ---- what the entries say of an event

-- It is to be removed.
abbrev pub leaves : List ℕ → Tag → Bool
leaves ns (old i) = is_gone (nth 0 ns i)
leaves ns (new k) = false

-- Its target number; 0 if it is gone.
abbrev pub target_number : List ℕ → Tag → ℕ
target_number ns (old i) = nth 0 ns i
target_number ns (new k) = k

-- Its source number; an inserted event has none.
abbrev pub source_number : Tag → ℕ
source_number (old i) = i
source_number (new k) = 0

abbrev pub any_gone : List ℕ → List Traced → Bool
any_gone ns [] = false
any_gone ns (x ∷ u) = leaves ns (tag_of x) || any_gone ns u

-- Both are kept, and the first has the greater target number.
abbrev pub overtakes : List ℕ → Tag → Tag → Bool
overtakes ns g h = not (leaves ns h) && ltb (target_number ns h) (target_number ns g)

-- ---- where

-- The last of some later places, else here if a test holds.
abbrev pub later_or_here : Option ℕ → Bool → Option ℕ
later_or_here (some i) c = some (suc i)
later_or_here none true = some zero
later_or_here none false = none

-- Here if a test holds, else the first of some later places.
abbrev pub here_or_later : Bool → Option ℕ → Option ℕ
here_or_later true r = some zero
here_or_later false none = none
here_or_later false (some i) = some (suc i)

-- The first place where two adjacent kept events stand against the target's order, from 0 on.
abbrev pub against : List ℕ → List Traced → Option ℕ
against ns [] = none
against ns (x ∷ []) = none
against ns (x ∷ y ∷ u) = here_or_later (overtakes ns (tag_of x) (tag_of y)) (against ns (y ∷ u))

-- The first of the numbers i to n that does not stand at its place.
abbrev pub missing : List ℕ → ℕ → ℕ → List Traced → Step
missing ns n i [] = cond (ltb n i) Done (Insert i)
missing ns n i (x ∷ u) = cond (eqb (target_number ns (tag_of x)) i) (missing ns n (suc i) u) (Insert i)

-- Some places, counted from an index on.
abbrev pub shifted : ℕ → Option ℕ → Option ℕ
shifted i none = none
shifted i (some j) = some (i + j)

-- The source number of the event at a place, from 0 on.
abbrev pub number_at : List Traced → ℕ → ℕ
number_at [] i = 0
number_at (x ∷ u) zero = source_number (tag_of x)
number_at (x ∷ u) (suc i) = number_at u i

abbrev pub remove_step : List Traced → Option ℕ → Step
remove_step u none = Stuck
remove_step u (some i) = Remove (suc i) (number_at u i)

abbrev pub swap_step : Option ℕ → Step → Step
swap_step none other = other
swap_step (some i) other = Swap (suc i)

-- The swap at the first place against the order from the index i on, else the insertion of the first missing number of n.
abbrev pub order_step : List ℕ → ℕ → ℕ → List Traced → Step
order_step ns n i u = swap_step (shifted i (against ns (drop i u))) (missing ns n 1 u)

module _ (view : Event → View) where
  -- The last gone event that may be removed, from 0 on, behind b.
  abbrev pub removal : List ℕ → List Traced → List Traced → Option ℕ
  removal ns b [] = none
  removal ns b (x ∷ a) =
      later_or_here (removal ns (x ∷ b) a) (leaves ns (tag_of x) && may_remove (viewed view) b (viewed view x) a)

  -- The next step, towards a target of n events: while gone events remain, removal of the last that may be removed; then the swap at the first
  -- place against the target's order; then the insertion of the least number that is missing.
  abbrev pub next_step : List ℕ → ℕ → List Traced → Step
  next_step ns n u = cond (any_gone ns u) (remove_step u (removal ns [] u)) (swap_step (against ns u) (missing ns n 1 u))

  -- A replay: each next step is allowed, until there is none.
  pub data Replays (ns : List ℕ) (t : List Event) : ℕ → List Traced → List Traced → Type 0 where
    ended : {u : List Traced} → next_step ns (length t) u ≡ Done → Replays ns t zero u u
    stepped : {k : ℕ} {u v w : List Traced} → applied view t (next_step ns (length t) u) u ≡ some v → Replays ns t k v w → Replays ns t (suc k) u w
