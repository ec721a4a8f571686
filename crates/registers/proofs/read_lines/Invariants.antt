-- What all lines come to is what those from here on come to, by what is known so far. Assumes nothing.
use Rattle.std.proofs.Common.{◌+◌, ◌-◌, length}
use Rattle.memory.specs.Listed.{none_listed}
use Rattle.text.specs.Line.{split_from}
use Rattle.frame.proofs.Tries.{Tried}
use Rattle.registers.specs.Reading.{nothing, regs_layout, refused}
use Rattle.registers.specs.Lines.{marking, lines_read}
use Rattle.registers.proofs.read_lines.Given as goal

abbrev pub invariant-loop-to : goal.invariant-loop-to
invariant-loop-to l =
    Tried (regs_layout l.grouped) refused 4 (lines_read l.grouped l.group 0 nothing none_listed (split_from l.text l.from)) l.text (l.n + 2)
    (record { low = l.low; counts = l.counts }) (marking l.grouped l.group l.listed) l.at

abbrev pub decreases-loop-to : goal.decreases-loop-to
decreases-loop-to l = length l.text - l.at
