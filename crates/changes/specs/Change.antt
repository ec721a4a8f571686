-- C-12: what a step makes of a trace by the rules alone. Places count from 1 in the trace as it stands. Assumes nothing.
use Rattle.std.specs.Prelude.{Bool, false, cond, ◌&&◌, List, [], ◌∷◌, ℕ, zero, suc, eqb, ltb, length, get_or}
use Rattle.std.proofs.Math.Option.{Option, none, some}
use Rattle.event.specs.Room.{no_event}
use Rattle.event.specs.declared.Event.{Event}
use Rattle.rules.specs.View.{View}
use Rattle.rules.specs.Moves.{Phase, one, two}
use Rattle.rules.specs.Run.{Tag, old, new, Traced, traced, tag_of, viewed}
use Rattle.changes.specs.Allowed.{may_remove, may_insert, may_swap}
use Rattle.changes.specs.declared.Step.{Step}
use Rattle.changes.specs.declared.Step.TheVariants.{Remove, Swap, Insert, Done, Stuck}
use Rattle.event.specs.Limit.{event_limit}

-- An event is the source event of a number.
abbrev pub is_source : ℕ → Tag → Bool
is_source n (old i) = eqb i n
is_source n (new k) = false

abbrev pub under : Traced → Option (List Traced) → Option (List Traced)
under x none = none
under x (some u) = some (x ∷ u)

-- What happens at a place, from 0 on, behind b.
abbrev pub at : ℕ → (List Traced → List Traced → Option (List Traced)) → List Traced → List Traced → Option (List Traced)
at zero f b u = f b u
at (suc i) f b [] = none
at (suc i) f b (x ∷ u) = under x (at i f (x ∷ b) u)

-- Removals come first, insertions after; swaps may come in both.
abbrev pub phase : Step → Phase
phase (Remove i k) = one
phase (Swap i) = two
phase (Insert i) = two
phase Done = two
phase Stuck = two

module _ (view : Event → View) where
  abbrev pub removed : ℕ → List Traced → List Traced → Option (List Traced)
  removed k b [] = none
  removed k b (x ∷ a) = cond (is_source k (tag_of x) && may_remove (viewed view) b (viewed view x) a) (some a) none

  abbrev pub swapped : List Traced → List Traced → Option (List Traced)
  swapped b [] = none
  swapped b (x ∷ []) = none
  swapped b (x ∷ y ∷ a) = cond (may_swap (viewed view) x y) (some (y ∷ x ∷ a)) none

  abbrev pub inserted : Traced → List Traced → List Traced → Option (List Traced)
  inserted x b a = cond (may_insert (viewed view) b (viewed view x)) (some (x ∷ a)) none

  -- The trace after a step, if the rules allow it; what is inserted is the target's event of that number, and a trace has at most 800 events. The
  -- entries play no part.
  abbrev pub applied : List Event → Step → List Traced → Option (List Traced)
  applied t (Remove zero k) u = none
  applied t (Remove (suc i) k) u = at i (removed k) [] u
  applied t (Swap zero) u = none
  applied t (Swap (suc i)) u = at i swapped [] u
  applied t (Insert zero) u = none
  applied t (Insert (suc i)) u = cond (ltb i (length t) && ltb (length u) event_limit) (at i (inserted (traced (new (suc i)) (get_or t i no_event))) [] u) none
  applied t Done u = none
  applied t Stuck u = none
