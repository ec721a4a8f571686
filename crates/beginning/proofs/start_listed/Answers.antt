-- The list's answer, or what comes under the list. Assumes nothing.
use Rattle.std.proofs.Common.{ap, ◌∙◌}
use Rattle.beginning.specs.Start.{not_begun}
use Rattle.beginning.proofs.Begun.{listed_refused, listed_starts}
use Rattle.beginning.proofs.start_listed.Goals as goal

pub returns-in-Err : goal.returns-in-Err
returns-in-Err c = listed_refused _ _ _ _ c.in-Err.ensures.0 c.in-Err.ensures.1 _ (c.not_begun.ensures ∙ ap not_begun c.refusal.ensures)

pub returns-in-Ok : goal.returns-in-Ok
returns-in-Ok c = listed_starts _ _ _ c.in-Ok.ensures _ _ _ _ _ _ c.start_in.ensures
