-- The whole line fits into its room. Assumes nothing.
use mathlib.Core.Path.{◌≡◌}
use Rattle.files.specs.Lines.{step_line}
use Rattle.files.proofs.Lines.{pushed_whole}
use Rattle.files.proofs.run.put_step.Goals as goal

pub returns : goal.returns
returns c =
    let line = step_line c.args.step c.args.source.now c.args.target.now in
    let all : c.as_slice.result.now ≡ line = rw (c.as_slice.ensures.value, c.push_step.ensures.held, c.new-line.ensures) (pushed_whole 128 line c.push_step.ensures.short) in
    rw all at c.put.ensures
