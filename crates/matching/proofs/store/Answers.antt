-- What a line says is put behind what is there. Assumes nothing.
use Rattle.std.proofs.Common.{sym, ◌∙◌, ap}
use Rattle.std.specs.Prelude.{set}
use Rattle.frame.proofs.Stores.{held_start, held_step, held_all}
use Rattle.matching.specs.Reading.{entries_on, entries_of}
use Rattle.matching.proofs.Stores.{entries_put, says, brief}
use Rattle.matching.proofs.store.Goals as goal

pub loop-to-init : goal.loop-to-init
loop-to-init c = rw c.line_two-at.ensures (held_start set entries_put says brief _ _)

pub loop-to-preserved : goal.loop-to-preserved
loop-to-preserved c =
    held_step set entries_put says brief _ _ c.loop-to.invariant (sym c.next_line.ensures ∙ c.in-Some.is) (entries_on c.entry_of.result)
    (ap entries_on c.entry_of.ensures)
    c.put_entry-i.ensures.0 c.put_entry-i.ensures.1

pub returns : goal.returns
unfolding entries_of
returns c = held_all set entries_put says brief _ _ c.loop-to.invariant (sym c.next_line.ensures ∙ c.in_default.is)
