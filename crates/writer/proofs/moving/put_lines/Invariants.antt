-- The lines of the events from here on are left. Assumes nothing.
use Rattle.std.proofs.Common.{map, ◌+◌, ◌-◌, length}
use Rattle.record.specs.Layout.{event_line}
use Rattle.trace.specs.Ahead.{heard_from}
use Rattle.trace.specs.Reading.{events_of}
use Rattle.trace.specs.Writing.{text_of}
use Rattle.writer.proofs.Puts.{Left}
use Rattle.writer.proofs.moving.put_lines.Given as goal

abbrev pub invariant-loop-found : goal.invariant-loop-found
invariant-loop-found l =
    Left l.fn.out l.fn.at (text_of (map (event_line l.fn.to) (events_of l.text))) l.out l.next
    (text_of (map (event_line l.fn.to) (heard_from l.form l.text l.from)))

abbrev pub decreases-loop-found : goal.decreases-loop-found
decreases-loop-found l = length l.text + 1 - l.from
