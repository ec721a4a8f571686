-- The digits were put at the front of an array first. Assumes nothing.
use Rattle.std.proofs.Common.{sym}
use lib.Seq.{length-take-le}
use Rattle.writer.proofs.Puts.{then, digits_put}
use Rattle.writer.proofs.put.put_number_if.Goals as goal

pub slice_bounds-digits-end : goal.slice_bounds-digits-end
slice_bounds-digits-end c = (digits_put c.args.n c.ranges.n.fits c.put_number-size.ensures).0

pub slice_bounds-put-end-2 : goal.slice_bounds-put-end-2
slice_bounds-put-end-2 c = sym (length-take-le _ _ (digits_put c.args.n c.ranges.n.fits c.put_number-size.ensures).0)

pub returns : goal.returns
returns c = rw c.if-not-wanted.false (then c.put-next.ensures (rw (digits_put c.args.n c.ranges.n.fits c.put_number-size.ensures).1 at c.put.ensures))
