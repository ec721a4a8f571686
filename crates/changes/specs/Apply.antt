-- Requests C-12 and C-16: what each function hands back, and what it leaves in the lent array of 800 numbers, which holds what stands at its front.
-- Assumes nothing.
use Rattle.std.specs.Prelude.{◌≡◌, Bool, true, false, cond, ◌&&◌, List, [], ◌++◌, ℕ, suc, leb, ltb, length, get_or, take, drop}
use Rattle.std.proofs.Math.Option.{Option, none, some}
use Rattle.event.specs.declared.Event.{Event}
use Rattle.rules.specs.View.{View, view, view_in}
use Rattle.rules.specs.Run.{Traced, viewed}
use Rattle.changes.specs.Allowed.{may_remove}
use Rattle.changes.specs.Change.{applied}
use Rattle.changes.specs.Tags.{behind, codes, event_for, trace}
use Rattle.changes.specs.declared.Step.{Step}
use Rattle.changes.specs.declared.Run.{Run}
use Rattle.changes.specs.declared.Applied.{Applied}
use Rattle.event.specs.Limit.{event_limit}

-- A run has begun and its trace is no longer than the array.
abbrev pub is_open : Run → Bool
is_open r = r.begun && leb r.standing event_limit

-- The array with numbers at its front.
abbrev pub front : List ℕ → List ℕ → List ℕ
front ks tags = ks ++ drop (length ks) tags

-- The trace as it stands.
abbrev pub stands : List Event → List Event → Run → List ℕ → List Traced
stands s t r tags = trace s t (take r.standing tags)

-- ---- a step applied, by the rules alone, which see an event by its look

abbrev pub outcome_by : (Event → View) → List Event → List Event → Run → List ℕ → Step → Option (List Traced)
outcome_by look s t r tags st = cond (is_open r) (applied look t st (stands s t r tags)) none

-- The same without a list.
abbrev pub outcome : List Event → List Event → Run → List ℕ → Step → Option (List Traced)
outcome = outcome_by view

abbrev pub leaving : ℕ → Applied
leaving n = record { run = record { begun = true; standing = n }; allowed = true }

abbrev pub applied_of : Run → Option (List Traced) → Applied
applied_of r none = record { run = r; allowed = false }
applied_of r (some u) = leaving (length u)

abbrev pub tags_after : List ℕ → Option (List Traced) → List ℕ
tags_after tags none = tags
tags_after tags (some u) = front (codes u) tags

-- What a step that is allowed or refused hands back and leaves.
pub record Applies (r : Run) (tags : List ℕ) (o : Option (List Traced)) (result : Applied) (after : List ℕ) : Type 0 where
  pub answer : result ≡ applied_of r o
  pub left : after ≡ tags_after tags o

-- The event at an index of the trace that some numbers stand for may be removed; beyond the end there is none.
abbrev pub removable_at : List Bool → List Event → List Event → List ℕ → ℕ → Bool
removable_at regs s t ks i =
    ltb i (length ks)
    && may_remove (viewed (view_in regs)) (behind [] (trace s t ks) i) (view_in regs (event_for s t (get_or ks i 0))) (drop (suc i) (trace s t ks))
