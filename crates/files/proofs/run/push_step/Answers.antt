-- The parts of a line, one behind the other. Assumes nothing.
use Rattle.files.proofs.Lines.{then, remove_short, swap_short, insert_short}
use Rattle.files.proofs.run.push_step.Goals as goal

pub returns-in-Remove-clause-held : goal.returns-in-Remove-clause-held
returns-in-Remove-clause-held g c =
    rw c.in-Remove.is
    (then _ _ _ _
    (then _ _ _ _ (then _ _ _ _ (then _ _ _ _ c.push.ensures c.push_number.ensures.held) c.push-in-Remove.ensures) c.push_number-in-Remove.ensures.held)
    c.push_event.ensures)

pub returns-in-Remove-clause-short : goal.returns-in-Remove-clause-short
returns-in-Remove-clause-short g c =
    rw c.in-Remove.is
    (remove_short c.args.source.now c.args.target.now c.in-Remove.place c.push_number.ensures.few c.in-Remove.number c.push_number-in-Remove.ensures.few)

pub returns-in-Swap-clause-held : goal.returns-in-Swap-clause-held
returns-in-Swap-clause-held g c =
    rw c.in-Swap.is (then _ _ _ _ (then _ _ _ _ c.push-in-Swap.ensures c.push_number-in-Swap.ensures.held) c.push-in-Swap-2.ensures)

pub returns-in-Swap-clause-short : goal.returns-in-Swap-clause-short
returns-in-Swap-clause-short g c = rw c.in-Swap.is (swap_short c.args.source.now c.args.target.now c.in-Swap.place c.push_number-in-Swap.ensures.few)

pub returns-in-Insert-clause-held : goal.returns-in-Insert-clause-held
returns-in-Insert-clause-held g c =
    rw c.in-Insert.is (then _ _ _ _ (then _ _ _ _ c.push-in-Insert.ensures c.push_number-in-Insert.ensures.held) c.push_event-in-Insert.ensures)

pub returns-in-Insert-clause-short : goal.returns-in-Insert-clause-short
returns-in-Insert-clause-short g c = rw c.in-Insert.is (insert_short c.args.source.now c.args.target.now c.in-Insert.place c.push_number-in-Insert.ensures.few)
