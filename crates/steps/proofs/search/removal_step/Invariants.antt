-- Nothing that may be removed stands from the index on. Assumes nothing.
use Rattle.std.proofs.Common.{◌≡◌, [], drop}
use Rattle.std.proofs.Math.Option.{none}
use Rattle.event.specs.Room.{whole_events}
use Rattle.rules.specs.View.{view_in}
use Rattle.changes.specs.Tags.{behind, trace}
use Rattle.course.specs.Step.{removal}
use Rattle.steps.proofs.search.removal_step.Given as goal

abbrev pub invariant-loop-i : goal.invariant-loop-i
invariant-loop-i l =
    let u = trace (whole_events l.source) (whole_events l.target) l.tags in
    removal (view_in l.listed) l.entries (behind [] u l.i) (drop l.i u) ≡ none
