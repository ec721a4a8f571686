-- None is listed. Assumes nothing.
use Rattle.std.proofs.Common.{◌∙◌}
use Rattle.event.specs.Room.{whole_events}
use Rattle.steps.proofs.Unlisted.{next_none}
use Rattle.steps.proofs.next.Goals as goal

pub returns : goal.returns
returns c =
    let a = c.args in
    c.next_listed.ensures ∙ next_none (whole_events a.source.now) (whole_events a.target.now) a.run a.tags.now a.entries.now a.swapped
