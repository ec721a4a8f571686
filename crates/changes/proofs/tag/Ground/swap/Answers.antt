-- The two numbers are exchanged. Assumes nothing.
use Rattle.std.proofs.Common.{◌-◌, ◌∙◌, arith, length-take-le, take}
use Rattle.event.specs.Room.{whole_events}
use Rattle.changes.specs.Inner.{exchanged}
use Rattle.changes.proofs.Changes.{allows, as_many}
use Rattle.changes.proofs.Shifts.{changed_over}
use Rattle.changes.proofs.tag.Ground.swap.Goals as goal

pub returns : goal.returns
returns c =
    let a = c.args in
    let n = a.run.standing in
    let p = c.can_swap.ensures.place_nonzero c.if-not-can_swap.false in
    let m = length-take-le n a.tags.now c.requires in
    allows (whole_events a.self.source.now) (whole_events a.self.target.now) (exchanged (a.place - 1) (take n a.tags.now)) n
    c.if-not-can_swap.ensures.tags_value (as_many a.tags.now n c.requires (a.place - 1) (omega (arith, p.0, p.1, m))) c.allow.ensures
    (c.swap.ensures.after ∙ changed_over a.place n a.tags.now p.0 (omega (arith, p.1, m)) c.requires)
