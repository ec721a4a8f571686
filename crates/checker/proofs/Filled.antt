-- Rooms that were filled hold the events and entries of their texts, which are lawful and few. Assumes nothing.
use Prim.Native.Nat.{ℕ, ◌*◌, ◌≤◌, ◌<◌}
use mathlib.Core.Path.{◌≡◌, refl}
use mathlib.Core.Bool.{Bool}
use mathlib.Core.List.{List}
use native.Mathlib.Omega.{arith}
use lib.ListN.{length, take, drop, set, length-append}
use lib.Seq.{take_at}
use Rattle.laws.proofs.Lists.{each_imp}
use Rattle.event.specs.Room.{flat, onward, Placed, capacity, event_words, put_at}
use Rattle.event.specs.declared.Event.{Event}
use Rattle.event.proofs.Rooms.{flat_length, onward_flat, each_event}
use Rattle.kinds.proofs.Lawful.{place_below}
use Rattle.event.specs.Limit.{places}
use Rattle.record.specs.Record.{Fit}
use Rattle.trace.specs.Reading.{form_of, events_of, survey_in, front, read_in, read_as}
use Rattle.trace.specs.Text.{Fits}
use Rattle.trace.proofs.OneText.{text_whole}
use Rattle.trace.proofs.Readings.{counts, read_passed, read_stores}
use Rattle.matching.specs.Reading.{entries_of, front as entry_front, read_of as entries_read, read_as as entries_as}
use Rattle.matching.proofs.Readings.{counts as entry_counts, read_passed as entries_passed, read_stores as entries_stored}
use Rattle.trace.specs.declared.reading.Held.{Held}
use Rattle.frame.specs.Store.{put_all}
use Rattle.checker.specs.Check.{Lent, source_read_in, target_read_in, entries_read as entries_reading, verdict_for, held_of, judged_in, HoldsTexts, ChecksIn}
use Rattle.checker.proofs.Answers.{texts_read, checks_judged}

-- what a filled room says of the trace that was read into it
pub record Filled (t : List ℕ) (h : Held) (room : List ℕ) : Type 0 where
  pub inside : h.events * event_words ≤ length room
  pub few : h.events ≤ 800
  pub front : take (h.events * event_words) room ≡ flat (events_of t)
  pub placed : Placed (take (h.events * event_words) room)

module _ (regs : List Bool) (side : ℕ) (t room : List ℕ) (z : (read_in regs side t room).answer.number ≡ 0) where
  passed : (survey_in regs side t).answer.number ≡ 0
  passed = rw (read_passed regs side t room z) at z

  fits : Fits (form_of t) (survey_in regs side t).memory (events_of t)
  fits = (text_whole regs side t passed).fits

  counted : (read_in regs side t room).events ≡ length (events_of t)
  counted = rw (read_passed regs side t room z) (counts regs side t passed)

  at_front : take ((read_in regs side t room).events * event_words) (front (events_of t) room) ≡ flat (events_of t)
  at_front =
      let n = length (events_of t) * event_words in
      rw counted (take_at (flat (events_of t)) (drop n room) n (flat_length (events_of t)))

  in_place : Placed (flat (events_of t))
  in_place i h =
      each_event (λ e. e.place < places) (events_of t)
      (each_imp (Fit (form_of t)) (λ e. e.place < places) (λ e f. place_below e f.law) (events_of t) fits.events) i
      (omega (arith, flat_length (events_of t)))

  filled_front : Filled t (held_of (read_in regs side t room)) (front (events_of t) room)
  filled_front = record {
    inside = omega (arith, counted, flat_length (events_of t), length-append (flat (events_of t)) (drop (length (events_of t) * event_words) room));
    few = omega (arith, counted, fits.few);
    front = at_front;
    placed = rw at_front in_place;
  }

-- a reading that fills its room with what it stores
pub filled : (regs : List Bool) (side : ℕ) (t room : List ℕ) (h : Held) → read_as h.events h.memory ≡ read_in regs side t room
    → Filled t h (put_all put_at room 0 (events_of t))
filled regs side t room h q =
    let z : (read_in regs side t room).answer.number ≡ 0 = rw (← q) in
    rw (read_stores regs side t room z) (let f = filled_front regs side t room z in rw (← q) at f)

-- the events of a room that holds just their words
held : (es : List Event) → onward (flat es) 0 (capacity (flat es)) ≡ es
held es =
    let n : capacity (flat es) ≡ length es = omega (arith, flat_length es) in
    rw n (onward_flat es)

-- what a filled room says of the matching that was read into it
pub record Entered (t : List ℕ) (n : ℕ) (room : List ℕ) : Type 0 where
  pub inside : n ≤ length room
  pub front : take n room ≡ entries_of t

module _ (t room : List ℕ) (z : (entries_read t room).answer.number ≡ 0) where
  entries_counted : (entries_read t room).entries ≡ length (entries_of t)
  entries_counted = rw (entries_passed t room z) (entry_counts t (rw (entries_passed t room z) at z))

  pub entered_front : Entered t (entries_read t room).entries (entry_front (entries_of t) room)
  entered_front = record {
    inside = omega (arith, entries_counted, length-append (entries_of t) (drop (length (entries_of t)) room));
    front = rw entries_counted (take_at (entries_of t) (drop (length (entries_of t)) room) (length (entries_of t)) refl);
  }

pub entered : (t room : List ℕ) (n : ℕ) → entries_as n ≡ entries_read t room → Entered t n (put_all set room 0 (entries_of t))
entered t room n q =
    let z : (entries_read t room).answer.number ≡ 0 = rw (← q) in
    rw (entries_stored t room z) (let f = entered_front t room z in rw (← q) at f)

-- filled rooms are judged as their texts are
module _ (regs : List Bool) (l : Lent) (read : Held × Held × ℕ) (h : HoldsTexts regs l read) where
  abbrev s : Held
  s = read.0

  abbrev t : Held
  t = read.1

  abbrev n : ℕ
  n = read.2

  abbrev source_room : List ℕ
  source_room = put_all put_at l.source_room_of 0 (events_of l.source)

  abbrev target_room : List ℕ
  target_room = put_all put_at l.target_room_of 0 (events_of l.target)

  abbrev entry_room : List ℕ
  entry_room = put_all set l.entry_room_of 0 (entries_of l.matching)

  pub source_filled : Filled l.source s source_room
  source_filled = filled regs 1 l.source l.source_room_of s h.source

  pub target_filled : Filled l.target t target_room
  target_filled = filled regs 2 l.target l.target_room_of t h.target

  pub entries_entered : Entered l.matching n entry_room
  entries_entered = entered l.matching l.entry_room_of n h.entries

  judged_is : judged_in regs s t n (take (s.events * event_words) source_room) (take (t.events * event_words) target_room) (take n entry_room)
      ≡ record {
        answer = verdict_for regs l;
        source = held_of (source_read_in regs l);
        target = held_of (target_read_in regs l);
        entries = (entries_reading l).entries;
      }
  unfolding judged_in verdict_for
  judged_is =
      rw (
        ← h.source,
        ← h.target,
        ← h.entries,
        source_filled.front,
        target_filled.front,
        entries_entered.front,
        held (events_of l.source),
        held (events_of l.target),
      )

  pub checks : ChecksIn regs l
      (judged_in regs s t n (take (s.events * event_words) source_room) (take (t.events * event_words) target_room) (take n entry_room))
      source_room target_room entry_room
  checks =
      checks_judged regs l _ _ _ _ (texts_read regs l h) judged_is (read_stores regs 1 l.source l.source_room_of (rw (← h.source)))
      (read_stores regs 2 l.target l.target_room_of (rw (← h.target))) (entries_stored l.matching l.entry_room_of (rw (← h.entries)))
