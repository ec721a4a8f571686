-- A run in rooms: which step comes next, what it makes of the events that stand, and what it leaves as it is. Assumes nothing.
use Rattle.std.specs.Prelude.{◌≡◌, ◌*◌, Bool, true, false, List, ℕ, take, replicate}
use Rattle.std.proofs.Math.Option.{Option, none, some}
use Rattle.event.specs.Room.{whole_events}
use Rattle.rules.specs.Run.{Traced}
use Rattle.rules.specs.View.{view_in}
use Rattle.checker.specs.Check.{Lent, lent}
use Rattle.changes.specs.Apply.{applied_of, outcome_by, tags_after}
use Rattle.changes.specs.declared.Run.{Run}
use Rattle.changes.specs.declared.Step.{Step}
use Rattle.steps.specs.Play.{next_by}
use Rattle.files.specs.declared.check.Texts.{Texts}
use Rattle.files.specs.declared.run.Begun.{Begun}

-- Three texts and rooms of zeros.
abbrev pub lent_zeros : Texts → Lent
lent_zeros t = lent t.source.now t.target.now t.matching.now (replicate 4800 0) (replicate 4800 0) (replicate 800 0)

-- The events of the source and of the target, in the rooms that hold them.
abbrev pub source_of : Begun → List ℕ
source_of b = take (b.started.checked.source.events * 6) b.source

abbrev pub target_of : Begun → List ℕ
target_of b = take (b.started.checked.target.events * 6) b.target

-- The step that comes next under a list of registers.
abbrev pub next_step : List Bool → Begun → Step
next_step regs b =
    next_by (view_in regs) (whole_events (source_of b)) (whole_events (target_of b)) (take b.started.checked.entries b.entries)
    b.swapped b.run b.tags

-- The events that stand after it; none if the rules refuse it.
abbrev pub outcome_next : List Bool → Begun → Option (List Traced)
outcome_next regs b =
    outcome_by (view_in regs) (whole_events (source_of b)) (whole_events (target_of b)) b.run b.tags (next_step regs b)

-- Whether the rules allow the next step.
abbrev pub is_there : Option (List Traced) → Bool
is_there none = false
is_there (some u) = true

abbrev pub is_allowed : List Bool → Begun → Bool
is_allowed regs b = is_there (outcome_next regs b)

-- The numbers of the events that stand after it.
abbrev pub tags_next : List Bool → Begun → List ℕ
tags_next regs b = tags_after b.tags (outcome_next regs b)

-- How far the run is after it.
abbrev pub run_next : List Bool → Begun → Run
run_next regs b = (applied_of b.run (outcome_next regs b)).run

-- A step leaves how the run began, and what the check stored.
pub record Keeps (old new : Begun) : Type 0 where
  pub started : new.started ≡ old.started
  pub source : new.source ≡ old.source
  pub target : new.target ≡ old.target
  pub entries : new.entries ≡ old.entries
