-- A replay of what is asked for is under way. Assumes nothing.
use Rattle.event.specs.Room.{whole_events}
use Rattle.rules.specs.View.{view_in}
use Rattle.steps.specs.Play.{play_by}
use Rattle.steps.proofs.Plays.{Going}
use Rattle.steps.proofs.replay_listed.Given as goal

abbrev pub invariant-loop-steps : goal.invariant-loop-steps
invariant-loop-steps l =
    let look = view_in l.listed in
    let s = whole_events l.source in
    let t = whole_events l.target in
    Going look s t l.entries l.budget (play_by look s t l.entries l.budget l.fn.run l.fn.tags) l.tags l.state l.swapped l.steps
