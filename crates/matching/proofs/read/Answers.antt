-- What is surveyed and fits is stored. Assumes nothing.
use Rattle.std.proofs.Common.{sym, ◌∙◌}
use Rattle.matching.specs.Reading.{read_of}
use Rattle.matching.proofs.Readings.{room_stored}
use Rattle.matching.proofs.read.Goals as goal

pub returns : goal.returns
unfolding read_of
returns c = (c.in_ok-entries.ensures, c.store.ensures ∙ sym (room_stored _ _ _ c.in_ok-entries.ensures))
