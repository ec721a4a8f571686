-- The lines from the i-th cell on are left. Assumes nothing.
use Rattle.std.proofs.Common.{drop}
use Rattle.uses.specs.Way.{is_used}
use Rattle.trace.specs.Writing.{text_of, has_line, init_lines}
use Rattle.writer.proofs.Puts.{Left}
use Rattle.writer.proofs.put.put_inits.Given as goal

abbrev pub invariant-loop-i : goal.invariant-loop-i
invariant-loop-i l =
    Left l.fn.out l.at (text_of (init_lines (has_line l.fn.form (is_used l.ways)) 0 l.fn.memory.cells)) l.out l.next
    (text_of (init_lines (has_line l.fn.form (is_used l.ways)) l.i (drop l.i l.fn.memory.cells)))
