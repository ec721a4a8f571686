-- From each location on the answer is that from the next one on, until one is refused or none is left. Assumes nothing.
use Rattle.judge.proofs.Cells.{Passed}
use Rattle.judge.proofs.start.start_answer.Given as goal

abbrev pub invariant-loop-at : goal.invariant-loop-at
invariant-loop-at l = Passed l.fn.listed l.fn.start.cells l.fn.target_start.cells l.at
