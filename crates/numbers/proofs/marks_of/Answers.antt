-- One more mark is its number, until all are. Assumes nothing.
use Rattle.std.proofs.Common.{◌∙◌, arith, false}
use Rattle.numbers.specs.Numbers.{flag}
use Rattle.numbers.proofs.Mapped.{byte, more, whole_mapped}
use Rattle.numbers.proofs.marks_of.Goals as goal

pub loop-i-preserved : goal.loop-i-preserved
loop-i-preserved c = more flag c.args.listed (omega arith) c.loop-i.numbers c.loop-i.i c.loop-i.invariant false _ (c.from.ensures ∙ byte _) (omega arith)

pub returns : goal.returns
returns c = whole_mapped flag c.args.listed (omega arith) c.loop-i.numbers c.loop-i.i c.loop-i.invariant (omega arith)
