-- The number is put in. Assumes nothing.
use Rattle.std.proofs.Common.{◌+◌, ◌-◌, ◌∙◌, ap, arith, length-take-le, set, take}
use Rattle.event.specs.Room.{whole_events}
use Rattle.changes.specs.Inner.{with_new}
use Rattle.changes.proofs.Changes.{allows, one_more}
use Rattle.changes.proofs.Shifts.{put_in}
use Rattle.changes.proofs.tag.Ground.insert.Goals as goal

pub returns : goal.returns
returns c =
    let a = c.args in
    let n = a.run.standing in
    let x = 800 + (a.place - 1) in
    let p = c.can_insert.ensures.place_nonzero c.if-not-can_insert.false in
    let m = length-take-le n a.tags.now c.requires.standing_in_bounds in
    allows (whole_events a.self.source.now) (whole_events a.self.target.now) (with_new (a.place - 1) x (take n a.tags.now)) (n + 1)
    c.if-not-can_insert.ensures.tags_value (one_more a.tags.now n c.requires.standing_in_bounds (a.place - 1) x (omega (arith, p.1, m))) c.allow.ensures
    (ap (λ l. set l (a.place - 1) x) c.copy_within.ensures.after ∙ put_in a.place n x a.tags.now p.0 (omega (arith, p.1, m)) (omega (arith, p.2, m, c.requires.event_limit_in_bounds)))
