-- Nothing beyond the end, and else as much as fits. Assumes nothing.
use mathlib.Core.Path.{◌≡◌}
use native.Mathlib.Omega.{arith}
use Rattle.std.proofs.Common.{◌+◌, ◌-◌}
use Rattle.files.proofs.Lines.{puts_none, puts_some}
use Rattle.files.proofs.run.put.Goals as goal

pub returns-then-out-at : goal.returns-then-out-at
returns-then-out-at c = puts_none c.args.out.now c.args.at c.args.line.now c.if-out-at.true

pub returns : goal.returns
returns c =
    let z : c.args.at + c.min-size.result - c.args.at ≡ c.min-size.result = omega arith in
    rw (z, c.copy_from_slice.ensures.after) (puts_some c.args.out.now c.args.at c.args.line.now c.min-size.result c.if-out-at.false c.min-size.ensures)
