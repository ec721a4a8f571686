-- A cell's line is put, if it is to be there. Assumes nothing.
use Rattle.std.proofs.Common.{arith}
use Rattle.uses.specs.Way.{is_used}
use Rattle.trace.specs.Writing.{has_line}
use Rattle.writer.proofs.Puts.{left_next}
use Rattle.writer.proofs.Texts.{inits_next}
use Rattle.writer.proofs.put.put_inits.Goals as goal

pub loop-i-preserved : goal.loop-i-preserved
loop-i-preserved c =
    left_next c.loop-i.invariant _ _ (inits_next (has_line c.args.form (is_used c.args.ways.now)) c.args.memory.cells c.loop-i.i (omega arith))
    (rw c.has_line.ensures at c.put_init-next.ensures)
