-- Line 1 ends within the text, and line 2 starts one byte on. Assumes nothing.
use Rattle.std.proofs.Common.{arith}
use Rattle.text.proofs.Cuts.{until_in}
use Rattle.text.proofs.line.line_two.Goals as goal

pub overflow_add-result : goal.overflow_add-result
overflow_add-result c = omega (arith, until_in 10 c.args.text.now 0 (omega arith), c.find.ensures, c.well_formed)
