-- The bytes from the i-th on are left. Assumes nothing.
use Rattle.std.proofs.Common.{◌+◌, drop}
use Rattle.writer.proofs.Puts.{Left}
use Rattle.writer.proofs.put.put.Given as goal

abbrev pub invariant-loop-i : goal.invariant-loop-i
invariant-loop-i l = Left l.fn.out l.at l.bytes l.out (l.at + l.i) (drop l.i l.bytes)
