-- What comes back for a text that is written or moved, where nothing of what was handed is refused: 17 with the bytes needed, or the bytes. Assumes nothing.
use Prim.Native.Nat.{ℕ, ◌+◌, ◌≤◌, ◌<◌}
use mathlib.Core.Bool.{Bool}
use mathlib.Core.Path.{◌≡◌, refl, sym, ◌∙◌, ap}
use mathlib.Core.List.{List}
use native.Mathlib.Omega.{arith}
use lib.ListN.{length, replicate}
use lib.Seq.{sets-eq}
use borrow.Author.Tests.{le-leb, lt-leb}
use Rattle.event.specs.Answer.{answer, done}
use Rattle.event.specs.Room.{onward}
use Rattle.event.specs.declared.Answer.{Answer}
use Rattle.memory.specs.declared.Memory.{Memory}
use Rattle.frame.proofs.Settled.{first_done}
use Rattle.record.specs.declared.form.Form.{Form}
use Rattle.uses.specs.Way.{is_used, ways_of}
use Rattle.uses.proofs.Ways.{used_by}
use Rattle.trace.specs.Moving.{moved_text, move_fault_in, move_survey_in, move_in, moved_out_in}
use Rattle.trace.specs.Reading.{TraceRead, read_as, start_of, events_of}
use Rattle.trace.specs.Text.{Valued, Fits}
use Rattle.trace.specs.Writing.{count_of, room_events, room_fault_in, lost, write_fault_in, text_by, trace_text, answered, out_with, write_in, out_after_in}
use Rattle.trace.proofs.Covered.{fit_inside}
use Rattle.trace.proofs.Moved.{found_none, moved_fits, moved_length}
use Rattle.trace.proofs.Range.{text_length, room_fits}
use Rattle.trace.proofs.Written.{room_sound}
use Rattle.writer.specs.Put.{Put, Small}
use Rattle.writer.proofs.Puts.{small_text}

-- what comes back for a text, and the lent bytes afterwards
module _ (fault : Answer) (t out : List ℕ) (z : fault.number ≡ 0) where
  short_as : length out < length t → (answer 17 0 (length t) ≡ answered fault t out) × (out ≡ out_with fault t out)
  short_as h = rw (z, lt-leb (length t) (length out) h) (refl, refl)

  written_as : {after : List ℕ} {next : ℕ} → length t ≤ length out → Put out 0 t after next
      → (answer 0 0 (length t) ≡ answered fault t out) × (after ≡ out_with fault t out)
  written_as h p =
      let o : 0 + length t ≡ length t = omega arith in
      rw (z, le-leb (length t) (length out) h) (refl, p.stored ∙ sets-eq t out 0 (omega arith) ∙ rw o)

-- a room that is written, by the ways in which its events use the locations
module _ (regs : List Bool) (f : Form) (m : Memory) (room out : List ℕ) (size : length m.cells ≡ 256) (values : Valued m.cells)
    (z : done ≡ write_fault_in regs f m room) (n : ℕ) (c : n ≡ count_of room)
    (ways : List ℕ) (u : ways ≡ ways_of (replicate 256 0) (onward room 0 n)) where
  abbrev by_ways : List ℕ
  by_ways = text_by f (is_used ways) m (onward room 0 n)

  none : (write_fault_in regs f m room).number ≡ 0
  none = ap (λ (a : Answer). a.number) (sym z)

  fit : Fits f m (onward room 0 n)
  unfolding write_fault_in
  fit =
      let d = first_done (room_fault_in regs m room) (lost f 0 1 (room_events room)) none in
      let s = room_sound regs m room c d.0 in
      room_fits room f m n size values s.0 s.1 (ap (λ (k : ℕ). (lost f 0 1 (onward room 0 k)).number) c ∙ d.1)

  text_is : by_ways ≡ trace_text f m (room_events room)
  text_is =
      ap (λ (has : ℕ → Bool). text_by f has m (onward room 0 n)) (ap is_used u ∙ used_by (onward room 0 n) (fit_inside f 256 (onward room 0 n) refl fit.events))
      ∙ ap (λ (k : ℕ). trace_text f m (onward room 0 k)) c

  pub write_small : Small 0 by_ways
  write_small = small_text f by_ways (text_length f (is_used ways) m (onward room 0 n) fit)

  pub write_short : length out < length by_ways → (answer 17 0 (length by_ways) ≡ write_in regs f m room out) × (out ≡ out_after_in regs f m room out)
  unfolding write_in out_after_in
  write_short h = rw text_is (short_as (write_fault_in regs f m room) (trace_text f m (room_events room)) out none (rw text_is at h))

  pub write_done : {after : List ℕ} {next : ℕ} → length by_ways ≤ length out → Put out 0 by_ways after next
      → (answer 0 0 (length by_ways) ≡ write_in regs f m room out) × (after ≡ out_after_in regs f m room out)
  unfolding write_in out_after_in
  write_done h p = rw text_is (written_as (write_fault_in regs f m room) (trace_text f m (room_events room)) out none (rw text_is at h) (rw text_is at p))

-- a text that is moved
module _ (regs : List Bool) (to : Form) (t out : List ℕ) (n : ℕ) (m : Memory) (q : read_as n m ≡ move_survey_in regs to t) (ways : List ℕ)
    (u : ways ≡ ways_of (replicate 256 0) (events_of t)) where
  abbrev moved_by : List ℕ
  moved_by = text_by to (is_used ways) m (events_of t)

  found : ((move_fault_in regs to t).number ≡ 0) × ((move_survey_in regs to t).memory ≡ start_of t)
  found = found_none regs to t (ap (λ (r : TraceRead). r.answer.number) (sym q))

  moved_is : moved_by ≡ moved_text to t
  unfolding moved_text
  moved_is =
      let fits = moved_fits regs to t found.0 in
      ap (λ (has : ℕ → Bool). text_by to has m (events_of t)) (ap is_used u ∙ used_by (events_of t) (fit_inside to 256 (events_of t) refl fits.events))
      ∙ ap (λ (m : Memory). trace_text to m (events_of t)) (ap (λ (r : TraceRead). r.memory) q ∙ found.1)

  pub move_small : Small 0 moved_by
  move_small = rw moved_is (small_text to (moved_text to t) (moved_length regs to t found.0))

  pub move_short : length out < length moved_by → (answer 17 0 (length moved_by) ≡ move_in regs to t out) × (out ≡ moved_out_in regs to t out)
  unfolding move_in moved_out_in
  move_short h = rw moved_is (short_as (move_fault_in regs to t) (moved_text to t) out found.0 (rw moved_is at h))

  pub move_done : {after : List ℕ} {next : ℕ} → length moved_by ≤ length out → Put out 0 moved_by after next
      → (answer 0 0 (length moved_by) ≡ move_in regs to t out) × (after ≡ moved_out_in regs to t out)
  unfolding move_in moved_out_in
  move_done h p = rw moved_is (written_as (move_fault_in regs to t) (moved_text to t) out found.0 (rw moved_is at h) (rw moved_is at p))
