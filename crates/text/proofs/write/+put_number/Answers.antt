-- One digit, or the digits of a tenth and one more after them: at most twenty, as the number has 64 bits. The measure is the number. Assumes nothing.
use native.Mathlib.Omega.{arith}
use Prim.Native.Nat.{◌+◌, ◌/◌, ◌%◌}
use Rattle.text.specs.Number.{decimal}
use Rattle.text.proofs.Decimals.{decimal_one, decimal_more, length_one, length_more, length_wide}
use Rattle.text.proofs.Writes.{wrote_next}
use Rattle.text.proofs.write.+put_number.Goals as goal

pub returns-then-n-lt-BASE : goal.returns-then-n-lt-BASE
returns-then-n-lt-BASE t c =
    let n = c.args.n in
    let small = c.if-n-lt-BASE.true in
    (omega (arith, length_one n small), rw (c.digit.ensures, decimal_one n small))

-- there is room for one digit more than the tenth has
pub bounds-out-next : goal.bounds-out-next
bounds-out-next t c =
    let more = length_more c.args.n c.if-n-lt-BASE.false in
    omega (arith, c.put_number-next.ensures.0, more, length_wide c.args.n c.ranges.n.fits)

pub overflow_add-result : goal.overflow_add-result
overflow_add-result t c =
    let more = length_more c.args.n c.if-n-lt-BASE.false in
    omega (arith, c.put_number-next.ensures.0, more, length_wide c.args.n c.ranges.n.fits)

pub returns : goal.returns
returns t c =
    let a = c.args in
    let big = c.if-n-lt-BASE.false in
    let p = c.put_number-next.ensures in (
      omega (arith, p.0, length_more a.n big),
      rw (p.1, p.0, c.digit-2.ensures, decimal_more a.n big) (wrote_next a.out.now (decimal (a.n / 10)) (48 + a.n % 10)),
    )
