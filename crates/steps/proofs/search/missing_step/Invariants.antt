-- What is missing is looked for from each number on. Assumes nothing.
use Rattle.std.proofs.Common.{◌≡◌, ◌+◌, List, drop}
use Rattle.event.specs.declared.Event.{Event}
use Rattle.changes.specs.Tags.{trace}
use Rattle.course.specs.Step.{missing}
use Rattle.steps.proofs.search.missing_step.Given as goal

abbrev pub invariant-loop-i : goal.invariant-loop-i
invariant-loop-i l =
    (s t : List Event) → missing l.entries l.targets 1 (trace s t l.tags) ≡ missing l.entries l.targets (l.i + 1) (drop l.i (trace s t l.tags))
