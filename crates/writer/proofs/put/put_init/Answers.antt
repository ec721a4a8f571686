-- The parts of the line are put one after the other. Assumes nothing.
use Rattle.writer.proofs.Texts.{init_put}
use Rattle.writer.proofs.put.put_init.Goals as goal

pub returns : goal.returns
returns c =
    rw c.if-not-has.false
    (init_put _ _ c.put-after_word.ensures c.put_number_if-after_place.ensures c.put_number_if-after_value.ensures c.put.ensures)
