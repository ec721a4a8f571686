-- With the events from here on the room comes out as with all of the text. No more are put than bytes were passed. Assumes nothing.
use Rattle.std.proofs.Common.{◌≡◌, ◌≤◌, ◌+◌, ◌-◌, length}
use Rattle.event.specs.Room.{put_at}
use Rattle.frame.specs.Store.{put_all}
use Rattle.trace.specs.Ahead.{heard_from}
use Rattle.trace.specs.Reading.{events_of}
use Rattle.trace.proofs.reading.store.Given as goal

abbrev pub invariant-loop-found : goal.invariant-loop-found
invariant-loop-found l = record {
  few : l.i ≤ l.at;
  same : put_all put_at l.fn.room 0 (events_of l.text) ≡ put_all put_at l.room l.i (heard_from l.form l.text l.at);
}

abbrev pub decreases-loop-found : goal.decreases-loop-found
decreases-loop-found l = length l.text + 1 - l.at
