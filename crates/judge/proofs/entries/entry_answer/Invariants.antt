-- From each entry on the answer is that from the next entry on, until an entry is refused or none is left. Assumes nothing.
use Rattle.judge.proofs.Named.{Passed}
use Rattle.judge.proofs.entries.entry_answer.Given as goal

abbrev pub invariant-loop-i : goal.invariant-loop-i
invariant-loop-i l = Passed l.fn.entries l.fn.targets l.marks.words l.i
