-- What a reading says by line 1, by its room and by its list; what a reading that does not refuse counts, and that it has room for it. Assumes nothing.
use mathlib.Core.Bool.{Bool, false}
use Prim.Native.Nat.{ℕ, ◌+◌, ◌*◌, ◌/◌, ◌≤◌}
use mathlib.Core.Path.{◌≡◌, refl, ap, sym, ◌∙◌}
use mathlib.Core.List.{List}
use native.Mathlib.Omega.{arith}
use lib.ListN.{length, replicate}
use borrow.Author.Tests.{le-leb, eqb-false}
use Rattle.event.specs.Room.{put_at}
use Rattle.frame.specs.Store.{put_all}
use Rattle.event.specs.Answer.{done}
use Rattle.event.specs.Told.{Refuses}
use Rattle.event.specs.declared.Answer.{Answer}
use Rattle.memory.specs.Memory.{empty}
use Rattle.memory.specs.declared.Memory.{Memory}
use Rattle.text.specs.Line.{line_len, split_from}
use Rattle.frame.specs.Reading.{Layout, head_fault, text_fault, settle}
use Rattle.frame.proofs.Heads.{head_stops, head_goes, head_length}
use Rattle.frame.proofs.Settled.{settled, settle_first, fits}
use Rattle.record.specs.Form.{header, limit_of}
use Rattle.record.specs.declared.form.Form.{Form}
use Rattle.record.specs.declared.form.Form.TheVariants.{One, Two}
use Rattle.registers.specs.Reading.{ListRead, refused as refused_list, read_as as list_as}
use Rattle.uses.specs.Cover.{marked}
use Rattle.uses.proofs.Starts.{starts_none}
use Rattle.trace.specs.Listed.{read_listed, room_listed}
use Rattle.trace.specs.Survey.{judged_as, with_inits, survey_inits}
use Rattle.trace.proofs.Inits.{unmarked}
use Rattle.trace.specs.Reading.{SoFar, form_of, trace_layout, inits_of, room_for, fault_in, refused, read_as, start_of, survey_in, events_of, read_in, front, room_after_in}
use Rattle.trace.specs.Reading.{TraceRead}
use Rattle.trace.proofs.Stores.{events_front}

abbrev number : TraceRead → ℕ
number r = r.answer.number

module _ (regs : List Bool) (side : ℕ) (t : List ℕ) where
  pub survey_done : (survey_in regs side t).answer.number ≡ 0
      → ((fault_in regs side t).number ≡ 0) × (survey_in regs side t ≡ read_as (length (events_of t)) (start_of t))
  unfolding survey_in
  survey_done h = settled refused number (λ a. refl) (fault_in regs side t) (read_as (length (events_of t)) (start_of t)) h

  pub counts : (survey_in regs side t).answer.number ≡ 0 → (survey_in regs side t).events ≡ length (events_of t)
  counts h = ap (λ (r : TraceRead). r.events) (survey_done h).1

  module _ (room : List ℕ) where
    module _ (h : (read_in regs side t room).answer.number ≡ 0) where
      room_told : ((survey_in regs side t).events ≤ length room / 6) × (read_in regs side t room ≡ survey_in regs side t)
      unfolding read_in
      room_told = fits refused number (λ a. refl) side (survey_in regs side t).events (length room / 6) (survey_in regs side t) h

      -- a reading that does not refuse is its survey
      pub read_passed : read_in regs side t room ≡ survey_in regs side t
      read_passed = room_told.1

      -- and has room for the events
      read_fits : length (events_of t) * 6 ≤ length room
      read_fits = omega (arith, room_told.0, counts (rw read_passed at h))

      -- so they are stored at its front
      pub read_stores : put_all put_at room 0 (events_of t) ≡ front (events_of t) room
      read_stores = events_front (events_of t) room read_fits

    -- a survey that does not refuse and has room is the reading
    pub read_done : (survey_in regs side t).answer.number ≡ 0 → (survey_in regs side t).events ≤ length room / 6
        → (read_in regs side t room ≡ survey_in regs side t) × (room_after_in regs side t room ≡ front (events_of t) room)
    unfolding read_in room_after_in
    read_done z h =
        let f = le-leb (survey_in regs side t).events (length room / 6) h in
        (rw f, rw (f, z))

-- 1, then the lines; and what is asked of them all comes after
apart : (regs : List Bool) (side : ℕ) (t : List ℕ)
    → survey_in regs side t ≡ settle refused (text_fault (trace_layout (form_of t)) side t) (judged_as regs (form_of t) side (inits_of t) (start_of t) (events_of t))
unfolding survey_in fault_in judged_as
apart regs side t = settle_first refused (text_fault (trace_layout (form_of t)) side t) _ _

-- line 1 of either form has bytes
header_long : (f : Form) → 1 ≤ length (header f)
header_long One = omega arith
header_long Two = omega arith

-- line 1 refuses, or the lines after it are read
module _ (regs : List Bool) (side : ℕ) (t : List ℕ) where
  abbrev layout : Layout SoFar
  layout = trace_layout (form_of t)

  pub head_refused : (a : Answer) → Refuses a → a ≡ head_fault side (limit_of (form_of t)) (header (form_of t)) t → refused a ≡ survey_in regs side t
  head_refused a r q = head_stops layout side t refused q (eqb-false a.number 0 r) refl _ ∙ sym (apart regs side t)

  module _ (q : done ≡ head_fault side (limit_of (form_of t)) (header (form_of t)) t) where
    pub head_passed : survey_in regs side t ≡ survey_inits regs (form_of t) side 2 0 (replicate 256 false) empty (split_from t (line_len t + 1))
    unfolding events_of inits_of
    head_passed =
        let none = starts_none (λ j v. marked (replicate 256 false) j) 0 empty.cells (λ j v b. unmarked j) in
        sym (sym (head_goes layout side t refused q refl (with_inits regs (form_of t) side (replicate 256 false) empty)) ∙ rw none (sym (apart regs side t)))

    pub line_two_in : 2 ≤ line_len t + 1
    line_two_in = omega (arith, head_length layout side t refused q refl, header_long (form_of t))

-- the room stays as it is where the survey refuses, and else holds the events
module _ (regs : List Bool) (side : ℕ) (t room : List ℕ) where
  pub read_is : room_for side (length room) (survey_in regs side t) ≡ read_in regs side t room
  unfolding read_in
  read_is = refl

  pub room_kept : (a : Answer) → Refuses a → refused a ≡ room_for side (length room) (survey_in regs side t) → room ≡ room_after_in regs side t room
  unfolding room_after_in
  room_kept a r q = rw (← read_is, ← q, r)

  pub room_filled : (n : ℕ) (m : Memory) → read_as n m ≡ room_for side (length room) (survey_in regs side t) → put_all put_at room 0 (events_of t) ≡ room_after_in regs side t room
  unfolding room_after_in
  room_filled n m q =
      let z : (read_in regs side t room).answer.number ≡ 0 = ap (λ (r : TraceRead). r.answer.number) (sym (q ∙ read_is)) in
      rw z (read_stores regs side t room z)

-- a list's refusal comes first
module _ (list : ListRead) (t room : List ℕ) where
  pub list_refused : (a : Answer) → Refuses a → refused_list a ≡ list → (refused a ≡ read_listed list t room) × (room ≡ room_listed list t room)
  unfolding read_listed room_listed
  list_refused a r q = (rw (← q, r), rw (← q, r))

  pub list_read : (marks : List Bool) → list_as marks ≡ list
      → (read_listed list t room ≡ read_in marks 1 t room) × (room_listed list t room ≡ room_after_in marks 1 t room)
  unfolding read_listed room_listed
  list_read marks q = (rw (← q), rw (← q))
