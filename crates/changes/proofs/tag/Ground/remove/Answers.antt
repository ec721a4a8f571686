-- The number is taken out. Assumes nothing.
use Rattle.std.proofs.Common.{◌-◌, ◌∙◌, arith, length-take-le, take}
use Rattle.event.specs.Room.{whole_events}
use Rattle.changes.specs.Inner.{without}
use Rattle.changes.proofs.Changes.{allows, one_less}
use Rattle.changes.proofs.Shifts.{taken_out}
use Rattle.changes.proofs.tag.Ground.remove.Goals as goal

pub returns : goal.returns
returns c =
    let a = c.args in
    let n = a.run.standing in
    let p = c.can_remove.ensures.place_nonzero c.if-not-can_remove.false in
    let m = length-take-le n a.tags.now c.requires in
    allows (whole_events a.self.source.now) (whole_events a.self.target.now) (without (a.place - 1) (take n a.tags.now)) (n - 1)
    c.if-not-can_remove.ensures.tags_value (one_less a.tags.now n c.requires (a.place - 1) (omega (arith, p.0, p.1, m))) c.allow.ensures
    (c.copy_within.ensures.after ∙ taken_out a.place n a.tags.now p.0 (omega (arith, p.1, m)) c.requires)
