-- From each target event on the answer is that from the next event on, until an event is refused or none is left. Assumes nothing.
use Rattle.judge.proofs.Sourced.{Along}
use Rattle.judge.proofs.target.target_answer.Given as goal

abbrev pub invariant-loop-k : goal.invariant-loop-k
invariant-loop-k l = Along l.fn.listed l.fn.target l.fn.marks.words l.fresh l.k
