-- Two events that do not stand against the order are passed. Assumes nothing.
use Rattle.std.proofs.Common.{◌∙◌, sym, arith}
use Rattle.steps.proofs.Searches.{order_kept, order_met, order_passed}
use Rattle.steps.proofs.search.order_step.Goals as goal

pub returns-then-is_overtaking : goal.returns-then-is_overtaking
returns-then-is_overtaking c = λ s t.
    order_met c.args.entries.now s t c.args.tags.now c.loop-i.i (omega arith) c.args.targets c.args.from (c.loop-i.invariant s t)
    (sym c.is_overtaking.ensures ∙ c.if-is_overtaking.true)

pub loop-i-preserved : goal.loop-i-preserved
loop-i-preserved c = λ s t.
    c.loop-i.invariant s t
    ∙ order_passed c.args.entries.now s t c.args.tags.now c.loop-i.i (omega arith) (sym c.is_overtaking.ensures ∙ c.if-is_overtaking.false)

pub returns : goal.returns
returns c = λ s t.
    c.missing_step.ensures s t
    ∙ order_kept c.args.entries.now s t c.args.tags.now c.loop-i.i c.args.targets c.args.from (omega arith) (c.loop-i.invariant s t)
