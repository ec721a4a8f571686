-- None of the events before is lost. Assumes nothing.
use Rattle.record.specs.Form.{loses}
use Rattle.trace.proofs.Judged.{Sought}
use Rattle.refusals.proofs.room.loss_of.Given as goal

abbrev pub invariant-loop-i : goal.invariant-loop-i
invariant-loop-i l = Sought (λ e. loses l.fn.form e.code) 19 0 l.room l.n l.i
