-- The ways after the events from here on are those after all. Assumes nothing.
use Rattle.std.proofs.Common.{◌≡◌, ◌+◌, ◌-◌, length}
use Rattle.trace.specs.Ahead.{heard_from}
use Rattle.trace.specs.Reading.{events_of}
use Rattle.uses.specs.Way.{ways_of}
use Rattle.writer.proofs.moving.touch_lines.Given as goal

abbrev pub invariant-loop-found : goal.invariant-loop-found
invariant-loop-found l = ways_of l.fn.ways (events_of l.text) ≡ ways_of l.ways (heard_from l.form l.text l.at)

abbrev pub decreases-loop-found : goal.decreases-loop-found
decreases-loop-found l = length l.text + 1 - l.at
