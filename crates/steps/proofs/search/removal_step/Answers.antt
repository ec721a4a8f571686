-- From the end down, an event that stays or may not be removed is passed. Assumes nothing.
use Rattle.std.proofs.Common.{◌∙◌, sym, arith, refl}
use Rattle.event.specs.Room.{whole_events}
use Rattle.steps.proofs.Searches.{removal_met, removal_passed}
use Rattle.steps.proofs.search.removal_step.Goals as goal
use Rattle.steps.proofs.search.removal_step.Goals.{else-is_leaving-via-then-is_leaving+else-may_remove, else-is_leaving-via-else-is_leaving}

pub returns-then-may_remove : goal.returns-then-may_remove
returns-then-may_remove c =
    let a = c.args in
    removal_met a.listed.now a.entries.now (whole_events a.source.now) (whole_events a.target.now) a.tags.now c.loop-i.i (omega arith) (omega arith)
    c.loop-i.invariant (sym c.is_leaving.ensures ∙ c.if-is_leaving.true) (sym c.may_remove.ensures ∙ c.if-may_remove.true)

pub loop-i-preserved : goal.loop-i-preserved
loop-i-preserved c =
    let a = c.args in
    let stays = removal_passed a.listed.now a.entries.now (whole_events a.source.now) (whole_events a.target.now) a.tags.now c.loop-i.i (omega arith)
    (omega arith) c.loop-i.invariant in
    elim c.else-is_leaving.branch [
      | else-is_leaving-via-then-is_leaving+else-may_remove w ↦
          stays (rw (← c.is_leaving.ensures, ← w.may_remove.ensures, w.if-is_leaving.true, w.if-may_remove.false) refl)
      | else-is_leaving-via-else-is_leaving w ↦ stays (rw (← c.is_leaving.ensures, w.if-is_leaving.false) refl)
    ]
