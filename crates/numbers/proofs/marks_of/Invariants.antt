-- The first elements are those of the other array, each through one function. Assumes nothing.
use Rattle.numbers.specs.Numbers.{flag}
use Rattle.numbers.proofs.Mapped.{Mapped}
use Rattle.numbers.proofs.marks_of.Given as goal

abbrev pub invariant-loop-i : goal.invariant-loop-i
invariant-loop-i l = Mapped flag l.fn.listed l.numbers l.i
