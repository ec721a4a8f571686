-- The words are the same where what is left of them from the index on is. Assumes nothing.
use Rattle.std.proofs.Common.{◌≡◌}
use lib.ListN.{drop}
use Rattle.text.specs.Word.{same_bytes}
use Rattle.text.proofs.word.same_bytes.Given as goal

abbrev pub invariant-loop-i : goal.invariant-loop-i
invariant-loop-i l = same_bytes l.a l.b ≡ same_bytes (drop l.i l.a) (drop l.i l.b)
