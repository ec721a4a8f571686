-- The word's number is the one that it has among the rows from here on.
use Rattle.std.proofs.Common.{◌≡◌, map, drop}
use Rattle.record.specs.Layout.{number_in}
use Rattle.record.specs.Table.{word_in}
use Rattle.record.proofs.word.number_in.Given as goal

abbrev pub invariant-loop-i : goal.invariant-loop-i
invariant-loop-i l = number_in 1 (map word_in (drop 1 l.table)) l.word ≡ number_in l.i (map word_in (drop l.i l.table)) l.word
