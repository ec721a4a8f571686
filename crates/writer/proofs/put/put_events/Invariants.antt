-- The lines of the events from the i-th on are left. Assumes nothing.
use Rattle.std.proofs.Common.{map, ◌-◌}
use Rattle.event.specs.Room.{onward}
use Rattle.record.specs.Layout.{event_line}
use Rattle.trace.specs.Writing.{text_of}
use Rattle.writer.proofs.Puts.{Left}
use Rattle.writer.proofs.put.put_events.Given as goal

abbrev pub invariant-loop-i : goal.invariant-loop-i
invariant-loop-i l =
    Left l.fn.out l.at (text_of (map (event_line l.fn.form) (onward l.room 0 l.n))) l.out l.next
    (text_of (map (event_line l.fn.form) (onward l.room l.i (l.n - l.i))))
