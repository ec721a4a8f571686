-- Rooms and texts in a cycle: what the writer makes of a room is read back into a room as the same events, and what a reading puts in a room
-- is written as the same bytes. Both follow from one trace having one text, as six words are one event. Assumes nothing.
use Prim.Native.Nat.{ℕ, ◌+◌, ◌*◌, ◌/◌, ◌≤◌}
use mathlib.Core.Bool.{Bool, false, not}
use mathlib.Core.Path.{◌≡◌, refl, ap}
use mathlib.Core.List.{List, [], ◌∷◌, ◌++◌}
use native.Mathlib.Omega.{arith}
use lib.Dec.{ltb}
use lib.ListN.{length, take, drop}
use lib.Seq.{take_at}
use borrow.Author.Tests.{ltb-false, le-ltb, le-leb}
use Rattle.laws.proofs.Cases.{not_first}
use Rattle.laws.proofs.Lists.{each_imp}
use Rattle.laws.specs.Each.{Each}
use Rattle.event.specs.Answer.{answer, done}
use Rattle.event.specs.Limit.{places, event_limit}
use Rattle.kinds.specs.Kind.{lawful}
use Rattle.memory.specs.Memory.{stepped}
use Rattle.event.specs.Room.{flat}
use Rattle.event.specs.declared.Answer.{Answer}
use Rattle.event.specs.declared.Event.{Event}
use Rattle.memory.specs.declared.Memory.{Memory}
use Rattle.event.proofs.Rooms.{flat_length, onward_flat}
use Rattle.frame.proofs.Settled.{first_done}
use Rattle.record.specs.Form.{loses}
use Rattle.record.specs.Record.{Fit}
use Rattle.record.specs.declared.form.Form.{Form}
use Rattle.trace.specs.Fault.{event_fault_in}
use Rattle.trace.specs.Reading.{form_of, read_as, survey_in, events_of, room_after_in}
use Rattle.trace.specs.Writing.{count_of, room_events, layout_fault, lost, trace_text, room_fault_in, in_out, write_fault_in, write_in, out_after_in}
use Rattle.trace.specs.Text.{Valued, Fits}
use Rattle.trace.proofs.OneText.{text_whole, written_read}
use Rattle.trace.proofs.Range.{onward_length, room_fits}
use Rattle.trace.proofs.ReadBack.{read_written}
use Rattle.trace.proofs.Readings.{counts, read_done}
use Rattle.uses.proofs.Bad.{bad_done}
use Rattle.trace.proofs.Judged.{fault_parts}

-- that no event is at fault does not hang on the side, nor on where the counting starts
pub fault_none : (regs : List Bool) (side side' k k' : ℕ) (m : Memory) (before es : List Event) → (event_fault_in regs side k m before es).number ≡ 0
    → event_fault_in regs side' k' m before es ≡ done
unfolding event_fault_in
fault_none regs side side' k k' m before [] h = refl
fault_none regs side side' k k' m before (e ∷ es) h =
    let f = fault_parts regs side k m before e es h in
    rw (f.0.0, f.0.1) (fault_none regs side side' (k + 1) (k' + 1) (stepped m e).memory (e ∷ before) es f.1)

-- neither 18 nor 19 is found where each event has a line in the form
layout_done : (f : Form) (k : ℕ) (es : List Event) → Each (Fit f) es → layout_fault k es ≡ done
layout_done f k es h = bad_done _ 18 0 k es (each_imp (Fit f) (λ e. not (lawful e) ≡ false) (λ e i. ap not i.law) es h)

pub lost_done : (f : Form) (side k : ℕ) (es : List Event) → Each (Fit f) es → lost f side k es ≡ done
lost_done f side k es h = bad_done _ 19 side k es (each_imp (Fit f) (λ e. loses f e.code ≡ false) (λ e i. i.kept) es h)

-- Document 01, "Lent room": "The writer is handed a starting memory, whose cells hold lawful values, and a part of a room". What it then writes
-- is read back, whatever the side, as that memory and the events of that part.
module _ (regs : List Bool) (f : Form) (m : Memory) (room out : List ℕ) (size : length m.cells ≡ places) (values : Valued m.cells)
    (h : (write_in regs f m room out).number ≡ 0) where
  no_refusals : ((room_fault_in regs m room).number ≡ 0) × ((lost f 0 1 (room_events room)).number ≡ 0)
  unfolding write_in write_fault_in
  no_refusals =
      let w = first_done (write_fault_in regs f m room) (in_out (length (trace_text f m (room_events room))) out) h in
      first_done (room_fault_in regs m room) (lost f 0 1 (room_events room)) w.0

  no_fault : (count_of room ≤ event_limit) × (((layout_fault 1 (room_events room)).number ≡ 0) × ((event_fault_in regs 0 1 m [] (room_events room)).number ≡ 0))
  unfolding room_fault_in
  no_fault =
      let c = not_first (λ (x : Answer). x.number) (ltb event_limit (count_of room)) (answer 3 0 (event_limit + 1)) _ (λ z. omega arith) no_refusals.0 in
      (ltb-false event_limit (count_of room) c.0, first_done (layout_fault 1 (room_events room)) (event_fault_in regs 0 1 m [] (room_events room)) c.1)

  written_fits : Fits f m (room_events room)
  written_fits = room_fits room f m (count_of room) size values no_fault.0 no_fault.1.0 no_refusals.1

  pub room_written : (side : ℕ) → (survey_in regs side (trace_text f m (room_events room)) ≡ read_as (count_of room) m)
      × (events_of (trace_text f m (room_events room)) ≡ room_events room)
  room_written side =
      rw (onward_length room 0 (count_of room)) at
      (read_written f side m (room_events room) written_fits regs (fault_none regs 0 side 1 1 m [] (room_events room) no_fault.1.1))

-- the events of the words of events are those events
room_words : (es : List Event) → room_events (flat es) ≡ es
room_words es =
    let n : (length (flat es) + 5) / 6 ≡ length es = omega (arith, flat_length es) in
    rw n (onward_flat es)

-- Document 01, "Lent room": "Otherwise the events (and entries, for the check) stand at the front of the rooms". Written from there, with the
-- starting memory that the reading hands back, they are the bytes that were read.
module _ (regs : List Bool) (side : ℕ) (t room out : List ℕ) (h : (survey_in regs side t).answer.number ≡ 0) (fits : (survey_in regs side t).events ≤ length room / 6)
    (long : length t ≤ length out) where
  abbrev start : Memory
  start = (survey_in regs side t).memory

  part : take ((survey_in regs side t).events * 6) (room_after_in regs side t room) ≡ flat (events_of t)
  part =
      rw ((read_done regs side t room h fits).1, counts regs side t h)
      (take_at (flat (events_of t)) (drop (length (events_of t) * 6) room) (length (events_of t) * 6) (flat_length (events_of t)))

  no_refusal : room_fault_in regs start (flat (events_of t)) ≡ done
  unfolding room_fault_in
  no_refusal =
      let w = text_whole regs side t h in
      let n : (length (flat (events_of t)) + 5) / 6 ≤ event_limit = omega (arith, flat_length (events_of t), w.fits.few) in
      rw (le-ltb event_limit ((length (flat (events_of t)) + 5) / 6) n, room_words (events_of t), layout_done (form_of t) 1 (events_of t) w.fits.events)
      (fault_none regs side 0 1 1 start [] (events_of t) w.sound)

  no_loss : write_fault_in regs (form_of t) start (flat (events_of t)) ≡ done
  unfolding write_fault_in
  no_loss = rw (no_refusal, room_words (events_of t)) (lost_done (form_of t) 0 1 (events_of t) (text_whole regs side t h).fits.events)

  pub room_read : (write_in regs (form_of t) (survey_in regs side t).memory (take ((survey_in regs side t).events * 6) (room_after_in regs side t room)) out ≡ answer 0 0 (length t))
      × (out_after_in regs (form_of t) (survey_in regs side t).memory (take ((survey_in regs side t).events * 6) (room_after_in regs side t room)) out ≡ t ++ drop (length t) out)
  unfolding write_in out_after_in
  room_read =
      let l = le-leb (length t) (length out) long in
      rw part (
        rw (no_loss, room_words (events_of t), written_read regs side t h, l),
        rw (no_loss, room_words (events_of t), written_read regs side t h, l),
      )
