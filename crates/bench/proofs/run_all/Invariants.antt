-- `bench::run_all` is safe and ends: each turn leaves less of the data, or returns. Assumes nothing.
use Rattle.std.proofs.Common.{length}
use Rattle.bench.proofs.run_all.Given as goal

abbrev pub decreases-loop-parts : goal.decreases-loop-parts
decreases-loop-parts g l = length l.parts.rest.now
