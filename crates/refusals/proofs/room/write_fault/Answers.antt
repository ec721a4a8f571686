-- The room's refusal, or else 19. Assumes nothing.
use Rattle.std.proofs.Common.{sym, ap, rules}
use Rattle.event.specs.declared.Answer.{Answer}
use Rattle.trace.specs.Writing.{write_fault_in}
use Rattle.trace.proofs.Written.{room_sound}
use Rattle.refusals.proofs.room.write_fault.Goals as goal

pub returns-in_err-room_fault : goal.returns-in_err-room_fault
unfolding write_fault_in
returns-in_err-room_fault c =
    let e = c.in_err-room_fault.ensures in
    search (rules, e)

pub loss_of-requires : goal.loss_of-requires
loss_of-requires c = (room_sound _ _ _ c.count_of.ensures (ap (λ (a : Answer). a.number) (sym c.in_ok-room_fault.ensures))).0

pub returns : goal.returns
unfolding write_fault_in
returns c = rw (← c.in_ok-room_fault.ensures, ← c.count_of.ensures) c.loss_of.ensures
