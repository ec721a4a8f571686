-- An event is at fault, or one more is not. Assumes nothing.
use Rattle.std.proofs.Common.{rules}
use Rattle.trace.proofs.Judged.{fault_passes}
use Rattle.refusals.proofs.Turns.{judging_start, judging_end, judging_stops, judging_goes}
use Rattle.refusals.proofs.room.event_fault.Goals as goal

pub loop-i-init : goal.loop-i-init
loop-i-init c = judging_start _ _ _ _ c.requires.n_value

pub returns-in_err-fault_at : goal.returns-in_err-fault_at
returns-in_err-fault_at c =
    let e = fault_passes 0 _ _ _ c.in_err-fault_at.ensures in
    let stops =
    judging_stops _ _ _ _ _ _ _ c.loop-i.invariant c.loop-i-test.true _ c.get-e.ensures _ c.use_listed-clash.ensures.0 _ c.step-last.ensures _ c.is_right.ensures _ e.0 e.1 in
    search (rules, e, stops)

pub loop-i-preserved : goal.loop-i-preserved
loop-i-preserved c =
    judging_goes _ _ _ _ _ _ _ c.loop-i.invariant c.loop-i-test.true _ c.get-e.ensures _ c.use_listed-clash.ensures.0 _ c.step-last.ensures _ c.is_right.ensures _
    c.use_listed-clash.ensures.1 (fault_passes 0 _ _ _ c.in_ok-fault_at.ensures)

pub returns : goal.returns
returns c = judging_end _ _ _ _ _ _ _ c.loop-i.invariant c.loop-i-test.false
