-- The lines of the events from here on that stay are left. Assumes nothing.
use Rattle.std.proofs.Common.{map, ◌+◌, ◌-◌, ◌≤◌, length, drop}
use Rattle.record.specs.Layout.{event_line}
use Rattle.trace.specs.Ahead.{heard_from}
use Rattle.trace.specs.Reading.{form_of, events_of}
use Rattle.trace.specs.Writing.{text_of}
use Rattle.writer.proofs.Puts.{Left}
use Rattle.shelf.specs.Short.{pick}
use Rattle.shorten.proofs.write.put_kept.Given as goal

abbrev pub invariant-loop-found : goal.invariant-loop-found
invariant-loop-found l =
    (l.i ≤ l.from) × Left l.fn.out l.fn.at (text_of (map (event_line (form_of l.text)) (pick l.flags (events_of l.text)))) l.out l.next_at
    (text_of (map (event_line l.form) (pick (drop l.i l.flags) (heard_from l.form l.text l.from))))

abbrev pub decreases-loop-found : goal.decreases-loop-found
decreases-loop-found l = length l.text + 1 - l.from
