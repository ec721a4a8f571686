-- None is listed. Assumes nothing.
use Rattle.event.specs.Room.{whole_events}
use Rattle.changes.proofs.Unlisted.{applies_none}
use Rattle.changes.proofs.apply.Goals as goal

pub returns : goal.returns
returns c =
    let a = c.args in
    applies_none (whole_events a.source.now) (whole_events a.target.now) a.run a.tags.now a.step c.apply_listed.ensures
