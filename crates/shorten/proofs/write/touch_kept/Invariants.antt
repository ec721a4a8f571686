-- The ways after the events from here on that stay are those after all that stay. Assumes nothing.
use Rattle.std.proofs.Common.{◌≡◌, ◌+◌, ◌-◌, ◌≤◌, length, drop}
use Rattle.trace.specs.Ahead.{heard_from}
use Rattle.trace.specs.Reading.{events_of}
use Rattle.uses.specs.Way.{ways_of}
use Rattle.shelf.specs.Short.{pick}
use Rattle.shorten.proofs.write.touch_kept.Given as goal

abbrev pub invariant-loop-found : goal.invariant-loop-found
invariant-loop-found l =
    (l.i ≤ l.at) × (ways_of l.fn.ways (pick l.flags (events_of l.text)) ≡ ways_of l.ways (pick (drop l.i l.flags) (heard_from l.form l.text l.at)))

abbrev pub decreases-loop-found : goal.decreases-loop-found
decreases-loop-found l = length l.text + 1 - l.at
