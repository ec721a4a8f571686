-- None of the events before is outside the layout. Assumes nothing.
use Rattle.std.proofs.Common.{not}
use Rattle.kinds.specs.Kind.{lawful}
use Rattle.trace.proofs.Judged.{Sought}
use Rattle.refusals.proofs.room.layout_fault.Given as goal

abbrev pub invariant-loop-i : goal.invariant-loop-i
invariant-loop-i l = Sought (λ e. not (lawful e)) 18 0 l.room l.n l.i
