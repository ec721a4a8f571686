-- None is listed. Assumes nothing.
use Rattle.event.specs.Room.{whole_events}
use Rattle.steps.proofs.Unlisted.{plays_none}
use Rattle.steps.proofs.replay.Goals as goal

pub returns : goal.returns
returns c =
    let a = c.args in
    plays_none (whole_events a.source.now) (whole_events a.target.now) a.run a.tags.now a.entries.now a.budget c.replay_listed.ensures
