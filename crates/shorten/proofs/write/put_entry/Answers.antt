-- The parts of the line are put one after the other. Assumes nothing.
use Rattle.shorten.proofs.Kept.{keep_put}
use Rattle.shorten.proofs.write.put_entry.Goals as goal

pub returns : goal.returns
returns c = keep_put _ c.if-number-eq0.false c.put-after_word.ensures c.put_number_if-after_number.ensures c.put-2.ensures
