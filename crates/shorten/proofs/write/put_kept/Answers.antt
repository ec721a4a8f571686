-- An event's line is put, if it stays. Assumes nothing.
use Rattle.std.proofs.Common.{arith}
use Rattle.shorten.proofs.Kept.{kept_small, kept_put}
use Rattle.shorten.proofs.write.put_kept.Goals as goal

pub put_if-next_at-requires : goal.put_if-next_at-requires
put_if-next_at-requires c = kept_small _ c.args.flags.now c.loop-found.i c.loop-found.invariant.1 c.in-Some.ensures.1.0 c.is_kept.ensures

pub loop-found-preserved : goal.loop-found-preserved
loop-found-preserved c = (
  omega (arith, c.in-Some.ensures.1.1.0),
  kept_put _ c.args.flags.now c.loop-found.i c.loop-found.invariant.1 c.in-Some.ensures.1.0 c.is_kept.ensures c.put_if-next_at.ensures,
)
