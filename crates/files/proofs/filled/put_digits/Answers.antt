-- The digits stand at the front of an array, and so at the front of the bytes that it is the front of. Assumes nothing.
use mathlib.Core.Path.{◌∙◌}
use native.Mathlib.Omega.{arith}
use lib.ListN.{length}
use lib.Seq.{length-take-le}
use Rattle.std.proofs.Common.{◌≤◌}
use Rattle.std.proofs.lemmas.List.{take-append-le}
use Rattle.text.specs.Number.{decimal}
use Rattle.text.specs.Write.{wrote}
use Rattle.text.proofs.Decimals.{length_wide}
use Rattle.text.proofs.Writes.{take_wrote, length_wrote}
use Rattle.files.proofs.filled.put_digits.Goals as goal

pub returns-clause-digits : goal.returns-clause-digits
returns-clause-digits c =
    let few : length (decimal c.args.n) ≤ 20 = length_wide c.args.n (omega (arith, c.ranges.n.fits)) in
    let front = c.in-Some.ensures.cases in
    let size : length (decimal c.args.n) ≤ length c.in-Some.digits.now = rw (front.same, length-take-le 20 c.args.out.now front.enough) few in
    let more : length (decimal c.args.n) ≤ length (wrote c.in-Some.digits.now (decimal c.args.n)) = rw (length_wrote c.in-Some.digits.now (decimal c.args.n)) size in
    rw (c.put_number.ensures.0, c.put_number.ensures.1)
    (take-append-le _ _ _ more ∙ take_wrote c.in-Some.digits.now (decimal c.args.n) size)
