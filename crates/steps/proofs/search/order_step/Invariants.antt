-- The first place against the order is looked for from each index on. Assumes nothing.
use Rattle.std.proofs.Common.{◌≡◌, List, drop}
use Rattle.event.specs.declared.Event.{Event}
use Rattle.changes.specs.Tags.{trace}
use Rattle.course.specs.Step.{against, shifted}
use Rattle.steps.proofs.search.order_step.Given as goal

abbrev pub invariant-loop-i : goal.invariant-loop-i
invariant-loop-i l =
    (s t : List Event) → shifted l.from (against l.entries (drop l.from (trace s t l.tags))) ≡ shifted l.i (against l.entries (drop l.i (trace s t l.tags)))
