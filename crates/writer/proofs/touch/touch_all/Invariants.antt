-- The ways after the events from here on are those after all. Assumes nothing.
use Rattle.std.proofs.Common.{◌≡◌, ◌-◌}
use Rattle.event.specs.Room.{onward}
use Rattle.uses.specs.Way.{ways_of}
use Rattle.writer.proofs.touch.touch_all.Given as goal

abbrev pub invariant-loop-i : goal.invariant-loop-i
invariant-loop-i l = ways_of l.fn.ways (onward l.room 0 l.n) ≡ ways_of l.ways (onward l.room l.i (l.n - l.i))
