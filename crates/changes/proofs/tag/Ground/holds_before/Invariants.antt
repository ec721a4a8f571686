-- Downward from the index, the near access is that before each event passed. Assumes nothing.
use Rattle.std.proofs.Common.{◌≡◌, []}
use Rattle.event.specs.Room.{whole_events}
use Rattle.rules.specs.View.{view_in}
use Rattle.rules.specs.Run.{viewed}
use Rattle.rules.specs.Moves.{near}
use Rattle.changes.specs.Tags.{behind, trace}
use Rattle.changes.proofs.tag.Ground.holds_before.Given as goal

abbrev pub invariant-loop-j : goal.invariant-loop-j
invariant-loop-j l =
    let u = trace (whole_events l.self.source.now) (whole_events l.self.target.now) l.tags in
    near (viewed (view_in l.self.listed.now)) l.place (behind [] u l.i) ≡ near (viewed (view_in l.self.listed.now)) l.place (behind [] u l.j)
