-- The near access is that from each event on. Assumes nothing.
use Rattle.std.proofs.Common.{◌≡◌, drop}
use Rattle.event.specs.Room.{whole_events}
use Rattle.rules.specs.View.{view_in}
use Rattle.rules.specs.Run.{viewed}
use Rattle.rules.specs.Moves.{near}
use Rattle.changes.specs.Tags.{trace}
use Rattle.changes.proofs.tag.Ground.stores_after.Given as goal

abbrev pub invariant-loop-tag : goal.invariant-loop-tag
invariant-loop-tag l =
    let u = trace (whole_events l.self.source.now) (whole_events l.self.target.now) l.after in
    near (viewed (view_in l.self.listed.now)) l.place u ≡ near (viewed (view_in l.self.listed.now)) l.place (drop l.tag-index u)
