-- The first event that is lost. Assumes nothing.
use Rattle.std.proofs.Common.{sym, ap, ◌∙◌, ◌+◌, rules}
use Rattle.trace.specs.Writing.{lost}
use Rattle.refusals.proofs.Losses.{lost_here}
use Rattle.refusals.proofs.moving.loss_in.Goals as goal

pub returns-in_err-loss_at : goal.returns-in_err-loss_at
returns-in_err-loss_at c =
    let e = c.in_err-loss_at.ensures in
    let first = c.loop-found.invariant.same ∙ ap (lost c.args.to 1 (c.loop-found.n + 1)) c.in-Some.ensures.1.0 in
    let here = lost_here c.args.to 1 _ _ _ _ e.0 e.1 ∙ sym first in
    search (rules, e, here)
