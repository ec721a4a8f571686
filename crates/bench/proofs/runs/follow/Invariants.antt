-- `bench::runs::follow` is safe and ends: each turn leaves less of the text, or returns. Assumes nothing.
use Rattle.std.proofs.Common.{length}
use Rattle.bench.proofs.runs.follow.Given as goal

abbrev pub decreases-loop-rest : goal.decreases-loop-rest
decreases-loop-rest l = length l.rest
