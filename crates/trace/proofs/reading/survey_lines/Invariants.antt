-- Some starting values were read. Assumes nothing.
use Rattle.std.proofs.Common.{◌-◌, length}
use Rattle.trace.proofs.Inits.{Starting}
use Rattle.trace.proofs.reading.survey_lines.Given as goal

abbrev pub invariant-loop-to : goal.invariant-loop-to
invariant-loop-to l = Starting l.listed l.fn.form l.text l.from l.side l.start l.has l.at l.k l.low

abbrev pub decreases-loop-to : goal.decreases-loop-to
decreases-loop-to l = length l.text - l.at
