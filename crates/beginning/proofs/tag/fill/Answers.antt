-- One more number is written, until all are. Assumes nothing.
use Rattle.std.proofs.Common.{◌∙◌, ap, set, take, arith}
use Rattle.std.proofs.lemmas.Grind.{common_steps}
use Rattle.beginning.proofs.Counted.{counted_length, counted_set}
use Rattle.beginning.proofs.tag.fill.Goals as goal

pub loop-i-preserved : goal.loop-i-preserved
loop-i-preserved c =
    ap (λ l. set l c.loop-i.i c.loop-i.i) c.loop-i.invariant ∙ counted_set c.loop-i.i (take c.args.events c.args.tags.now) c.loop-i-test.true

pub returns : goal.returns
returns c = grind (arith, common_steps, counted_length)
