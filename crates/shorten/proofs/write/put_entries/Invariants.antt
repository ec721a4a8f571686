-- The lines of the entries from here on are left. Assumes nothing.
use Rattle.std.proofs.Common.{map, ◌+◌, ◌≤◌, drop}
use Rattle.matching.specs.Entry.{entry_line}
use Rattle.trace.specs.Writing.{text_of}
use Rattle.writer.proofs.Puts.{Left}
use Rattle.shelf.specs.Short.{numbers}
use Rattle.shorten.proofs.write.put_entries.Given as goal

abbrev pub invariant-loop-kept : goal.invariant-loop-kept
invariant-loop-kept l =
    (l.number ≤ l.kept-index + 1) × Left l.fn.out l.fn.at (text_of (map entry_line (numbers 1 l.flags))) l.out l.next_at
    (text_of (map entry_line (numbers l.number (drop l.kept-index l.flags))))
