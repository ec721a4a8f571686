-- The whole line fits into its room. Assumes nothing.
use mathlib.Core.Path.{◌≡◌}
use native.Mathlib.Omega.{arith}
use Rattle.files.specs.Lines.{count_line}
use Rattle.files.proofs.Lines.{pushed_whole, count_short}
use Rattle.files.proofs.run.put_count.Goals as goal

pub returns : goal.returns
returns c =
    let line = count_line c.args.steps in
    let all : c.as_slice.result.now ≡ line =
    rw (c.as_slice.ensures.value, c.push_count.ensures, c.new-line.ensures) (pushed_whole 64 line (count_short c.args.steps (omega (arith, c.ranges.steps.fits)))) in
    rw all at c.put.ensures
