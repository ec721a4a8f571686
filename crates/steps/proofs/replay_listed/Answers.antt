-- Each turn asks for the next step, from the last swap's place on, and applies it. Assumes nothing.
use Rattle.std.proofs.Common.{refl}
use native.Mathlib.Numerals.{add-one}
use Rattle.steps.proofs.Plays.{goes_off, goes_on, not_done}
use Rattle.steps.proofs.replay_listed.Goals as goal

pub returns-in-Done : goal.returns-in-Done
returns-in-Done c =
    goes_off _ _ _ _ _ _ _ _ _ _ c.loop-steps.invariant c.next_listed-step.result c.next_listed-step.ensures c.apply_listed-applied.result _
    c.apply_listed-applied.ensures _ c.if-not-applied.true (rw c.in-Done.is refl)

pub returns-in_default : goal.returns-in_default
returns-in_default c =
    goes_off _ _ _ _ _ _ _ _ _ _ c.loop-steps.invariant c.next_listed-step.result c.next_listed-step.ensures c.apply_listed-applied.result _
    c.apply_listed-applied.ensures _ c.if-not-applied.true (rw (not_done c.next_listed-step.result c.in_default.not-Done) refl)

pub loop-steps-preserved : goal.loop-steps-preserved
loop-steps-preserved c =
    goes_on _ _ _ _ _ _ _ _ _ _ c.loop-steps.invariant c.next_listed-step.result c.next_listed-step.ensures c.apply_listed-applied.result _
    c.apply_listed-applied.ensures c.loop-steps-test.true c.if-not-applied.false _ _ c.swap_place-swapped.ensures (add-one c.loop-steps.steps)
