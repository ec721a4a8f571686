-- A move by its parts: line 1, the reading, 19. A text that is moved is of the other form and is read without refusal, so its trace has a text in the
-- form that it is moved to; and moved back it is the same bytes, as one trace has one text of a form. Assumes nothing.
use Prim.Native.Nat.{ℕ, ◌+◌, ◌≤◌}
use mathlib.Core.Path.{◌≡◌, refl, sym, ◌∙◌, ap}
use mathlib.Core.Bool.{Bool, false, false≢true}
use mathlib.Core.List.{List, [], ◌∷◌}
use native.Mathlib.Omega.{arith}
use lib.Dec.{eqb, ltb}
use lib.ListN.{length}
use borrow.Author.Tests.{le-ltb, eqb-false}
use Rattle.laws.proofs.Cases.{cases, either, not_first}
use Rattle.laws.specs.Each.{Each}
use Rattle.event.specs.Answer.{answer, done, first}
use Rattle.event.specs.Told.{Refuses}
use Rattle.event.specs.declared.Answer.{Answer}
use Rattle.event.specs.declared.Event.{Event}
use Rattle.memory.specs.declared.Memory.{Memory}
use Rattle.text.specs.Line.{split}
use Rattle.text.specs.Word.{same_bytes}
use Rattle.text.proofs.Walk.{PartLeft}
use Rattle.frame.specs.Reading.{headed}
use Rattle.frame.proofs.Settled.{first_done, settled}
use Rattle.record.specs.Form.{header, limit_of, loses, other}
use Rattle.record.specs.Record.{Fit}
use Rattle.record.specs.declared.form.Form.{Form}
use Rattle.record.specs.declared.form.Form.TheVariants.{One, Two}
use Rattle.uses.specs.Cover.{touched}
use Rattle.trace.specs.Moving.{moved_text, move_head, move_fault_in, move_survey_in}
use Rattle.trace.specs.Reading.{form_of, start_of, events_of, fault_in, refused, read_as, survey_in}
use Rattle.trace.specs.Text.{Fits, longest_text}
use Rattle.trace.specs.Writing.{lost, trace_text}
use Rattle.trace.specs.Reading.{TraceRead}
use Rattle.trace.proofs.Cycle.{fault_none, lost_done}
use Rattle.uses.proofs.Bad.{bad_none}
use Rattle.trace.proofs.OneText.{Sound, text_whole, line_one, memory_is, written_read}
use Rattle.trace.proofs.ReadBack.{its_lines, some_lines, form_written, text_parts, read_written}
use Rattle.trace.proofs.Range.{text_length, longest_short}
use Rattle.trace.proofs.Readings.{survey_done}

-- what is found of a text, by the first of its parts that refuses
module _ (regs : List Bool) (to : Form) (t : List ℕ) where
  pub head_refuses : (a : Answer) → Refuses a → a ≡ move_head to t → refused a ≡ move_survey_in regs to t
  unfolding move_survey_in move_fault_in
  head_refuses a r q = rw (← q, r, r)

  module _ (h : done ≡ move_head to t) where
    pub reading_refuses : (a : Answer) → Refuses a → refused a ≡ survey_in regs 1 t → refused a ≡ move_survey_in regs to t
    unfolding move_survey_in move_fault_in survey_in
    reading_refuses a r q =
        cases (either (eqb (fault_in regs 1 t).number 0))
        (λ e. absurd (eqb-false a.number 0 r (ap (λ (s : TraceRead). s.answer.number) q ∙ rw e)))
        (λ e. rw (← h, e, e) (q ∙ rw e))

    module _ (n : ℕ) (m : Memory) (r : read_as n m ≡ survey_in regs 1 t) where
      passed : (survey_in regs 1 t).answer.number ≡ 0
      passed = ap (λ (s : TraceRead). s.answer.number) (sym r)

      pub loss_refuses : (a : Answer) → Refuses a → a ≡ lost to 1 1 (events_of t) → refused a ≡ move_survey_in regs to t
      unfolding move_survey_in move_fault_in
      loss_refuses a s q = rw (← h, (survey_done regs 1 t passed).0, ← q, s)

      pub move_passes : done ≡ lost to 1 1 (events_of t) → read_as n m ≡ move_survey_in regs to t
      unfolding move_survey_in move_fault_in
      move_passes q = r ∙ ((survey_done regs 1 t passed).1 ∙ rw (← h, (survey_done regs 1 t passed).0, ← q))

  pub found_none : (move_survey_in regs to t).answer.number ≡ 0 → ((move_fault_in regs to t).number ≡ 0) × ((move_survey_in regs to t).memory ≡ start_of t)
  unfolding move_survey_in
  found_none z =
      let s = settled refused (λ (r : TraceRead). r.answer.number) (λ a. refl) (move_fault_in regs to t) (read_as (length (events_of t)) (start_of t)) z in
      (s.0, ap (λ (r : TraceRead). r.memory) s.1)

-- events that have a line in a form, and lose no code line in another, have a line in that
refit : (f to : Form) (side k : ℕ) (es : List Event) → Each (Fit f) es → (lost to side k es).number ≡ 0 → Each (Fit to) es
refit f to side k [] h n = tt
refit f to side k (e ∷ es) h n =
    let l = bad_none (λ x. loses to x.code) 19 side k e es (λ z. omega arith) n in
    (record { law = h.0.law; kept = l.0 }, refit f to side (k + 1) es h.1 l.1)

-- a form that is not this one is the other
not_this : (f to : Form) → (f ≡ to → ⊥) → f ≡ other to
not_this One One n = absurd (n refl)
not_this One Two n = refl
not_this Two One n = refl
not_this Two Two n = absurd (n refl)

-- line 1 of a form is not that of the other
not_headed : (f : Form) (ls : List (List ℕ)) → PartLeft ls → headed (header (other f)) (header f ∷ ls) ≡ false
unfolding same_bytes
not_headed f [] s = absurd s
not_headed One (l ∷ ls) s = refl
not_headed Two (l ∷ ls) s = refl

-- a moved text, by the trace of the text
moved_of : (to : Form) (t : List ℕ) {m : Memory} {es : List Event} → start_of t ≡ m → events_of t ≡ es → moved_text to t ≡ trace_text to m es
unfolding moved_text
moved_of to t p q = rw (p, q)

-- a move that is not refused
module _ (regs : List Bool) (to : Form) (t : List ℕ) (h : (move_fault_in regs to t).number ≡ 0) where
  parts : ((move_head to t).number ≡ 0) × (((fault_in regs 1 t).number ≡ 0) × ((lost to 1 1 (events_of t)).number ≡ 0))
  unfolding move_fault_in
  parts =
      let a = first_done (move_head to t) (first (fault_in regs 1 t) (lost to 1 1 (events_of t))) h in
      (a.0, first_done (fault_in regs 1 t) (lost to 1 1 (events_of t)) a.1)

  read : (survey_in regs 1 t).answer.number ≡ 0
  unfolding survey_in
  read = rw parts.1.0

  not_to : headed (header to) (split t) ≡ false
  unfolding move_head
  not_to =
      let a = not_first (λ (x : Answer). x.number) (ltb (limit_of (form_of t)) (length t)) (answer 1 1 0) _ (λ z. omega arith) parts.0 in
      (not_first (λ (x : Answer). x.number) (headed (header to) (split t)) (answer 2 1 1) done (λ z. omega arith) a.1).0

  -- the text is of the other form
  pub from_other : form_of t ≡ other to
  from_other = not_this (form_of t) to (λ e. false≢true (sym not_to ∙ (rw e at (line_one regs 1 t read))))

  -- its trace has a text in the form that it is moved to, which is read back without refusal
  whole : Sound regs (form_of t) 1 (start_of t) (events_of t)
  whole = rw (memory_is regs 1 t read) at (text_whole regs 1 t read)

  pub moved_fits : Fits to (start_of t) (events_of t)
  moved_fits =
      let f = whole.fits in
      record { size = f.size; values = f.values; few = f.few; events = refit (form_of t) to 1 1 (events_of t) f.events parts.1.1 }

  -- that text is of that form, is short and has not the other's line 1
  form_moved : form_of (moved_text to t) ≡ to
  unfolding moved_text
  form_moved = form_written to (start_of t) (events_of t)

  pub moved_length : length (moved_text to t) ≤ longest_text to
  unfolding moved_text
  moved_length = text_length to (touched (events_of t)) (start_of t) (events_of t) moved_fits

  not_headed_moved : headed (header (other to)) (split (moved_text to t)) ≡ false
  unfolding moved_text
  not_headed_moved =
      rw (text_parts to (start_of t) (events_of t)) (not_headed to (its_lines to (start_of t) (events_of t)) (some_lines to (start_of t) (events_of t)))

  back : (survey_in regs 1 (moved_text to t) ≡ read_as (length (events_of t)) (start_of t)) × (events_of (moved_text to t) ≡ events_of t)
  unfolding moved_text
  back = read_written to 1 (start_of t) (events_of t) moved_fits regs (fault_none regs 1 1 1 1 (start_of t) [] (events_of t) whole.sound)

  back_done : (survey_in regs 1 (moved_text to t)).answer.number ≡ 0
  back_done = rw back.0

  back_start : start_of (moved_text to t) ≡ start_of t
  back_start = sym (memory_is regs 1 (moved_text to t) back_done) ∙ rw back.0

  back_head : move_head (other to) (moved_text to t) ≡ done
  unfolding move_head
  back_head =
      let o = le-ltb (limit_of to) (length (moved_text to t)) (omega (arith, moved_length, longest_short to)) in
      rw (form_moved, o, not_headed_moved)

  -- Document 02, C-11: "moving back gives the same bytes". Both ways: there is nothing about the move back that refuses.
  pub there_and_back : (move_fault_in regs (other to) (moved_text to t) ≡ done) × (moved_text (other to) (moved_text to t) ≡ t)
  unfolding move_fault_in
  there_and_back = (
    rw (
      back_head,
      (survey_done regs 1 (moved_text to t) back_done).0,
      back.1,
      (lost_done (other to) 1 1 (events_of t) (rw from_other at whole.fits.events)),
    ),
    moved_of (other to) (moved_text to t) back_start back.1 ∙ rw (← from_other) (rw (memory_is regs 1 t read) at (written_read regs 1 t read)),
  )
