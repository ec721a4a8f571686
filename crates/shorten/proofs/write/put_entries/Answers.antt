-- An entry's line is put. Assumes nothing.
use Rattle.std.proofs.Common.{arith}
use Rattle.shorten.proofs.Kept.{entry_put}
use Rattle.shorten.proofs.write.put_entries.Goals as goal

pub loop-kept-preserved : goal.loop-kept-preserved
loop-kept-preserved c = (
  grind (arith, c.number_after-number.ensures),
  entry_put c.args.flags.now c.loop-kept.kept-index c.loop-kept.number c.loop-kept.invariant.1 (omega arith) c.entry_for.ensures
      c.number_after-number.ensures c.put_entry-next_at.ensures,
)
