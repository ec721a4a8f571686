-- 3, then 18, then 5 and 6. Assumes nothing.
use Rattle.std.proofs.Common.{refl, sym, ap, rules}
use Rattle.event.specs.declared.Answer.{Answer}
use Rattle.trace.proofs.Written.{room_full, layout_refuses, room_events_lem}
use Rattle.refusals.proofs.room.room_fault.Goals as goal

pub returns-then-n-gt-EVENT_LIMIT : goal.returns-then-n-gt-EVENT_LIMIT
returns-then-n-gt-EVENT_LIMIT c = rw c.new.ensures (refl, sym (room_full _ _ _ c.count_of-n.ensures c.if-n-gt-EVENT_LIMIT.true))

pub returns-in_err-layout_fault : goal.returns-in_err-layout_fault
returns-in_err-layout_fault c =
    let e = c.in_err-layout_fault.ensures in
    let layout = layout_refuses c.args.listed.now c.args.memory c.args.room.now c.count_of-n.ensures c.if-n-gt-EVENT_LIMIT.false _ e.0 e.1 in
    search (rules, e, layout)

pub returns : goal.returns
returns c =
    rw (room_events_lem _ _ _ c.count_of-n.ensures c.if-n-gt-EVENT_LIMIT.false (ap (λ (a : Answer). a.number) (sym c.in_ok-layout_fault.ensures)))
    c.event_fault.ensures
