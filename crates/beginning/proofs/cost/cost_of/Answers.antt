-- One more entry is counted, gone or kept. Assumes nothing.
use Rattle.std.proofs.Common.{◌+◌, arith}
use native.Mathlib.Numerals.{add-one}
use Rattle.beginning.proofs.Tally.{one_gone, one_kept}
use Rattle.beginning.proofs.cost.cost_of.Goals as goal
use Rattle.beginning.proofs.cost.cost_of.Goals.{then-number-eq0, else-number-eq0}

pub overflow_add-steps-else-number-eq0 : goal.overflow_add-steps-else-number-eq0
overflow_add-steps-else-number-eq0 c =
    let l = c.loop-i in
    let k = one_kept c.args.entries.now l.steps l.kept l.i l.invariant c.loop-i-test.true c.requires.entries_len_bound (l.i + 1)
    c.reversed_with-steps.result (add-one l.i) c.if-number-eq0.false c.reversed_with-steps.ensures in
    omega (arith, k.small, k.inside, c.requires.entries_len_bound)

pub loop-i-preserved : goal.loop-i-preserved
loop-i-preserved c =
    let l = c.loop-i in
    elim c.if-number-eq0.branch [
      | then-number-eq0 w ↦ rw (w.steps-is, w.kept-is)
          (one_gone c.args.entries.now l.steps l.kept l.i l.invariant c.loop-i-test.true c.requires.entries_len_bound (l.i + 1) (add-one l.i)
          w.if-number-eq0.true)
      | else-number-eq0 w ↦ rw (w.steps-is, w.kept-is)
          (one_kept c.args.entries.now l.steps l.kept l.i l.invariant c.loop-i-test.true c.requires.entries_len_bound (l.i + 1)
          w.reversed_with-steps.result (add-one l.i) w.if-number-eq0.false w.reversed_with-steps.ensures)
    ]
