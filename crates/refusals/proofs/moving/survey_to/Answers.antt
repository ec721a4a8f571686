-- 19 comes after the reading. Assumes nothing.
use Rattle.std.proofs.Common.{rules}
use Rattle.trace.proofs.Moved.{loss_refuses, move_passes}
use Rattle.refusals.proofs.moving.survey_to.Goals as goal

pub returns-in_err-loss_in : goal.returns-in_err-loss_in
returns-in_err-loss_in c =
    let e = c.in_err-loss_in.ensures in
    let loss = loss_refuses _ _ _ c.in_ok-move_head.ensures _ _ c.in_ok-held.ensures _ e.0 e.1 in
    search (rules, e, loss)

pub returns : goal.returns
returns c = move_passes _ _ _ c.in_ok-move_head.ensures _ _ c.in_ok-held.ensures c.in_ok-loss_in.ensures
