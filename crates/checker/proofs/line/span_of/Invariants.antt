-- The line that is sought, from each line on, with one less to count for each that is counted. Assumes nothing.
use Rattle.std.proofs.Common.{◌-◌, length}
use Rattle.checker.proofs.Lines.{Sought}
use Rattle.checker.proofs.line.span_of.Given as goal

abbrev pub invariant-loop-to : goal.invariant-loop-to
invariant-loop-to l = Sought l.text l.only l.k l.at l.left

abbrev pub decreases-loop-to : goal.decreases-loop-to
decreases-loop-to l = length l.text - l.at
