-- With what the lines from here on say, the room comes out as with all that the text says. Assumes nothing.
use Rattle.std.proofs.Common.{◌-◌, length}
use Rattle.std.specs.Prelude.{set}
use Rattle.frame.proofs.Stores.{Held}
use Rattle.matching.proofs.Stores.{entries_put, says, brief}
use Rattle.matching.proofs.store.Given as goal

abbrev pub invariant-loop-to : goal.invariant-loop-to
invariant-loop-to l = Held set entries_put says brief l.text l.initial.room l.i l.room l.at

abbrev pub decreases-loop-to : goal.decreases-loop-to
decreases-loop-to l = length l.text - l.at
