-- Line 1 is what stands before the first LF. Assumes nothing.
use Rattle.std.proofs.Common.{sym, ◌∙◌, arith}
use lib.Seq.{length-take-le}
use Rattle.text.proofs.Walk.{next}
use Rattle.frame.proofs.Heads.{head_line, head_open}
use Rattle.frame.proofs.is_headed.Goals as goal

pub slice_bounds-same_bytes-end : goal.slice_bounds-same_bytes-end
slice_bounds-same_bytes-end c = sym (length-take-le _ c.args.text.now (omega (arith, next _ _ _ (sym c.next_line.ensures ∙ c.in-Some.is))))

pub returns-in-Some : goal.returns-in-Some
returns-in-Some c = c.same_bytes.ensures ∙ sym (head_line _ _ _ (sym c.next_line.ensures ∙ c.in-Some.is))

pub returns-in-None : goal.returns-in-None
returns-in-None c = sym (head_open _ _ (sym c.next_line.ensures ∙ c.in-None.is))
