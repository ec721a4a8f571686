-- Both texts. Assumes nothing.
use Rattle.shorten.proofs.Written.{both}
use Rattle.shorten.proofs.write_both.Goals as goal

pub returns : goal.returns
returns c =
    both _ _ c.args.out.now c.args.matching_out.now c.short_size-bytes.ensures c.matching_size-matching_bytes.ensures c.if-out-bytes.false
    c.if-matching_out-matching_bytes.false c.put_short.ensures c.put_matching.ensures
