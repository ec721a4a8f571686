-- Requests C-12, C-18 and C-16: the promises of `course` on texts, and on the array that a caller lends. Assumes nothing.
use Rattle.std.specs.Prelude.{◌≡◌, Bool, true, ◌↔◌, ◌≢◌, List, ℕ, ◌≤◌}
use Rattle.std.proofs.Math.Option.{none}
use Rattle.event.specs.Answer.{done}
use Rattle.event.specs.declared.Event.{Event}
use Rattle.rules.specs.View.{View, view, view_in}
use Rattle.rules.specs.Moves.{Run}
use Rattle.rules.specs.Run.{Traced, number, changes, Ends}
use Rattle.registers.specs.Reading.{ListRead}
use Rattle.checker.specs.Check.{Lent, check_listed}
use Rattle.checker.specs.Demand.{entries_for, source_of, target_of}
use Rattle.changes.specs.Apply.{outcome_by, stands}
use Rattle.changes.specs.declared.Step.{Step}
use Rattle.changes.specs.declared.Step.TheVariants.{Done}
use Rattle.course.specs.Cost.{steps_of}
use Rattle.steps.specs.Play.{Played, next_by, play_by}
use Rattle.beginning.specs.Start.{started_in, started_listed, started_of, tags_in, tags_listed, tags_of}
use Rattle.beginning.specs.declared.Started.{Started}
use Rattle.course.specs.Promise.{bound}

-- What a beginning hands back, and what it leaves in the array; from there on the rules see an event by its look.
module _ (begun : Lent → Started) (left : Lent → List ℕ → List ℕ) (look : Event → View) where
  -- How the run of three texts goes, by next steps that are applied, with a budget.
  abbrev pub replay_by : Lent → List ℕ → ℕ → Played
  replay_by l tags budget = play_by look (source_of l) (target_of l) (entries_for l) budget (begun l).run (left l tags)

  -- The trace that it ends with.
  abbrev pub last_by : Lent → List ℕ → ℕ → List Traced
  last_by l tags budget = let p = replay_by l tags budget in stands (source_of l) (target_of l) p.run p.tags

  -- An accepted matching is replayed to the end, with every budget from the bound on: no step is refused and none is missing, what was done is a run in
  -- demand 3's sense, and the last trace is the target.
  abbrev pub PrintedBy : Type 0
  PrintedBy =
      (l : Lent) (tags : List ℕ) → (begun l).checked.answer ≡ done → (budget : ℕ) → bound (source_of l) (target_of l) ≤ budget
      → ((replay_by l tags budget).ended ≡ true)
      × ((replay_by l tags budget).steps ≤ bound (source_of l) (target_of l))
      × Run (changes look) (number 1 (source_of l)) (last_by l tags budget)
      × Ends (entries_for l) 1 (last_by l tags budget) (target_of l)

  -- It ends exactly with the budgets that are no less than the count that the beginning hands back, and then it has so many steps.
  abbrev pub AsManyBy : Type 0
  AsManyBy =
      (l : Lent) (tags : List ℕ) → (begun l).checked.answer ≡ done → (budget : ℕ)
      → (((replay_by l tags budget).ended ≡ true) ↔ ((begun l).cost ≤ budget))
      × ((begun l).cost ≤ budget → (replay_by l tags budget).steps ≡ (begun l).cost)

  -- No run that realises the matching of three texts has fewer.
  abbrev pub NoFewerBy : Type 0
  NoFewerBy =
      (l : Lent) → (begun l).checked.answer ≡ done → (u : List Traced) (r : Run (changes look) (number 1 (source_of l)) u)
      → Ends (entries_for l) 1 u (target_of l) → (begun l).cost ≤ steps_of r

  -- A matching that is not accepted has no step: none is next, none is applied, and the array stays as it is.
  abbrev pub NoStepBy : Type 0
  NoStepBy =
      (l : Lent) (tags : List ℕ) → (begun l).checked.answer.number ≢ 0 → (s t : List Event) (ns : List ℕ) (swapped : ℕ) (st : Step)
      → (next_by look s t ns swapped (begun l).run tags ≡ Done)
      × (outcome_by look s t (begun l).run tags st ≡ none)
      × (left l tags ≡ tags)

-- Under a list of registers, by its marks.
module _ (regs : List Bool) where
  abbrev pub PrintedIn : Type 0
  PrintedIn = PrintedBy (started_in regs) (tags_in regs) (view_in regs)

  abbrev pub AsManyIn : Type 0
  AsManyIn = AsManyBy (started_in regs) (tags_in regs) (view_in regs)

  abbrev pub NoFewerIn : Type 0
  NoFewerIn = NoFewerBy (started_in regs) (tags_in regs) (view_in regs)

-- Without a list.
abbrev pub PrintedTexts : Type 0
PrintedTexts = PrintedBy started_of tags_of view

abbrev pub AsManyTexts : Type 0
AsManyTexts = AsManyBy started_of tags_of view

abbrev pub NoFewerTexts : Type 0
NoFewerTexts = NoFewerBy started_of tags_of view

abbrev pub NoStep : Type 0
NoStep = NoStepBy started_of tags_of view

-- With what was read of a list.
module _ (list : ListRead) where
  abbrev pub PrintedListed : Type 0
  PrintedListed = PrintedBy (started_listed list) (tags_listed list) (view_in list.listed)

  abbrev pub AsManyListed : Type 0
  AsManyListed = AsManyBy (started_listed list) (tags_listed list) (view_in list.listed)

  abbrev pub NoFewerListed : Type 0
  NoFewerListed = NoFewerBy (started_listed list) (tags_listed list) (view_in list.listed)

  abbrev pub NoStepListed : Type 0
  NoStepListed = NoStepBy (started_listed list) (tags_listed list) (view_in list.listed)

  -- It checks as a check with the list does.
  abbrev pub CheckedListed : Type 0
  CheckedListed = (l : Lent) → (started_listed list l).checked ≡ check_listed list l
