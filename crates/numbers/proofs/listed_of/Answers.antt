-- One more number but 0 is a mark, until all are. Assumes nothing.
use Rattle.std.proofs.Common.{arith, refl}
use Rattle.numbers.specs.Numbers.{flagged}
use Rattle.numbers.proofs.Mapped.{more, whole_mapped}
use Rattle.numbers.proofs.listed_of.Goals as goal

pub loop-i-preserved : goal.loop-i-preserved
loop-i-preserved c = more flagged c.args.numbers (omega arith) c.loop-i.listed c.loop-i.i c.loop-i.invariant 0 _ refl (omega arith)

pub returns : goal.returns
returns c = whole_mapped flagged c.args.numbers (omega arith) c.loop-i.listed c.loop-i.i c.loop-i.invariant (omega arith)
