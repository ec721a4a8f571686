-- One trace has one text: a text that is read without refusal is the text of the trace that it is read as, for its parts are the lines of
-- that trace, and parts glued together are the text again. Assumes nothing.
use Prim.Native.Nat.{ℕ, ◌≤◌}
use mathlib.Core.Path.{◌≡◌, refl, sym, ◌∙◌, ap}
use mathlib.Core.Bool.{Bool, true}
use mathlib.Core.List.{List, [], ◌∷◌, ◌++◌, map, append_assoc}
use native.Mathlib.Omega.{arith}
use lib.ListN.{length}
use Rattle.event.specs.Answer.{first}
use Rattle.memory.specs.Memory.{empty}
use Rattle.event.specs.declared.Answer.{Answer}
use Rattle.event.specs.declared.Event.{Event}
use Rattle.memory.specs.declared.Memory.{Memory}
use Rattle.text.specs.Cut.{glue}
use Rattle.text.specs.Line.{split, body}
use Rattle.text.proofs.Parts.{glue_cut}
use Rattle.text.proofs.Walk.{PartLeft}
use Rattle.record.specs.Form.{header}
use Rattle.record.specs.Layout.{event_line}
use Rattle.record.specs.declared.form.Form.{Form}
use Rattle.uses.specs.Cover.{Start, touched}
use Rattle.trace.specs.Fault.{cover_fault}
use Rattle.trace.specs.Fault.{event_fault_in}
use Rattle.frame.specs.Reading.{headed, lines_fault, text_fault}
use Rattle.frame.proofs.Heads.{framed}
use Rattle.frame.proofs.Settled.{first_done}
use Rattle.trace.specs.Reading.{form_of, trace_layout, events_in, inits_in, start_from, start_of, fault_in, survey_in, events_of, inits_of}
use Rattle.trace.specs.Writing.{text_of, start_line, text_by, trace_text}
use Rattle.trace.specs.Text.{Fits, longest_text}
use Rattle.trace.specs.Reading.{TraceRead}
use Rattle.trace.proofs.Readings.{survey_done}
use Rattle.trace.proofs.Range.{lines_length, text_length}
use Rattle.trace.proofs.ReadBack.{tail, its_inits, its_lines}
use Rattle.trace.proofs.WriteBack.{bounded, printed, lines_back, zeros}

glue_text : (ls : List (List ℕ)) → glue 10 (ls ++ ([] ∷ [])) ≡ text_of ls
unfolding glue text_of
glue_text [] = refl
glue_text (l ∷ []) = refl
glue_text (l ∷ m ∷ ls) = rw (glue_text (m ∷ ls))

module _ (f : Form) where
  -- a text whose parts are the lines of starting values and events, and of those of a trace, is their text
  glued : (is : List Start) (es : List Event) (t : List ℕ) → split t ≡ header f ∷ (map start_line is ++ tail f es)
      → text_of (header f ∷ map start_line is ++ map (event_line f) es) ≡ t
  glued is es t h = sym (glue_text (header f ∷ map start_line is ++ map (event_line f) es)) ∙ rw (append_assoc, ← h) (glue_cut 10 t)

  text_glue : (m : Memory) (es : List Event) (t : List ℕ) → split t ≡ header f ∷ its_lines f m es → trace_text f m es ≡ t
  unfolding text_by
  text_glue m es t h = glued (its_inits f m es) es t h

  -- lines that are read without refusal: what they are read as is within bounds
  lines_fit : (side : ℕ) (ls : List (List ℕ)) → PartLeft ls → (lines_fault (trace_layout f) side 2 (trace_layout f).start ls).number ≡ 0
      → Fits f (start_from f empty ls) (events_in f ls)
  lines_fit side ls s h =
      let b = bounded f side 2 ls s h empty.cells refl (zeros 256) in
      record { size = b.size; values = b.values; few = omega (arith, b.few); events = b.events }

  -- Document 02, C-13: the longest lawful trace text is under its form's limit. So it is for every text that has no line at fault, whatever its
  -- length is held to and whatever its values are.
  pub layout_length : (side : ℕ) (t l : List ℕ) (ls : List (List ℕ)) → split t ≡ header f ∷ l ∷ ls
      → (lines_fault (trace_layout f) side 2 (trace_layout f).start (l ∷ ls)).number ≡ 0 → length t ≤ longest_text f
  layout_length side t l ls p h =
      let b = printed f side 2 (l ∷ ls) tt h in
      let i = lines_fit side (l ∷ ls) tt h in
      let is : List Start = inits_in f (l ∷ ls) in
      let es : List Event = events_in f (l ∷ ls) in
      rw (glued is es t (p ∙ ap (λ (qs : List (List ℕ)). header f ∷ qs) b.lines)) at
      (lines_length f is es b.ascend b.heard i.few i.events)

-- what is so of every text that is read without refusal; and that its lines are the prints of what it is read as
pub record Sound (regs : List Bool) (f : Form) (side : ℕ) (m : Memory) (es : List Event) : Type 0 where
  pub fits : Fits f m es
  pub sound : (event_fault_in regs side 1 m [] es).number ≡ 0

module _ (regs : List Bool) (side : ℕ) (t : List ℕ) (h : (survey_in regs side t).answer.number ≡ 0) where
  no_fault : ((text_fault (trace_layout (form_of t)) side t).number ≡ 0)
      × (((cover_fault (form_of t) side (inits_of t) (events_of t)).number ≡ 0) × ((event_fault_in regs side 1 (start_of t) [] (events_of t)).number ≡ 0))
  unfolding fault_in
  no_fault =
      let c : Answer = cover_fault (form_of t) side (inits_of t) (events_of t) in
      let e : Answer = event_fault_in regs side 1 (start_of t) [] (events_of t) in
      let d = first_done (text_fault (trace_layout (form_of t)) side t) (first c e) (survey_done regs side t h).0 in
      (d.0, first_done c e d.1)

  pub memory_is : (survey_in regs side t).memory ≡ start_of t
  memory_is = ap (λ (r : TraceRead). r.memory) (survey_done regs side t h).1

  -- line 1 is that of its form
  pub line_one : headed (header (form_of t)) (split t) ≡ true
  line_one = (framed (trace_layout (form_of t)) side t no_fault.0).first

  pub text_whole : Sound regs (form_of t) side (survey_in regs side t).memory (events_of t)
  unfolding events_of
  text_whole =
      let f = framed (trace_layout (form_of t)) side t no_fault.0 in
      rw memory_is (record { fits = lines_fit (form_of t) side (body (split t)) f.some f.lines; sound = no_fault.1.1 })

  pub text_printed : split t ≡ header (form_of t) ∷ its_lines (form_of t) (survey_in regs side t).memory (events_of t)
  unfolding events_of inits_of
  text_printed =
      let f = framed (trace_layout (form_of t)) side t no_fault.0 in
      let p = printed (form_of t) side 2 (body (split t)) f.some f.lines in
      rw memory_is (f.parts ∙ ap (λ (qs : List (List ℕ)). header (form_of t) ∷ qs) (lines_back (form_of t) side (body (split t)) p no_fault.1.0))

-- Document 01, "Trace text": "`init` lines ascend strictly by location, and their value is never 0 (a 0 there is answer 2): a location without
-- a line starts at 0." Document 02, C-15: in form 2 a touched location has its line, and no other has one of 0. So what is read writes back the same
-- bytes.
pub written_read : (regs : List Bool) (side : ℕ) (t : List ℕ) → (survey_in regs side t).answer.number ≡ 0 → trace_text (form_of t) (survey_in regs side t).memory (events_of t) ≡ t
written_read regs side t h = text_glue (form_of t) (survey_in regs side t).memory (events_of t) t (text_printed regs side t h)

-- And so one trace has one text of a form, whatever lists it is read under.
pub one_text : (regs regs' : List Bool) (side side' : ℕ) (t u : List ℕ) → (survey_in regs side t).answer.number ≡ 0
    → (survey_in regs' side' u).answer.number ≡ 0 → form_of t ≡ form_of u → (survey_in regs side t).memory ≡ (survey_in regs' side' u).memory
    → events_of t ≡ events_of u → t ≡ u
one_text regs regs' side side' t u h k f p q = sym (written_read regs side t h) ∙ rw (f, p, q) (written_read regs' side' u k)

-- And so it is for every text that is read without refusal.
pub lawful_length : (regs : List Bool) (side : ℕ) (t : List ℕ) → (survey_in regs side t).answer.number ≡ 0 → length t ≤ longest_text (form_of t)
lawful_length regs side t h = rw (written_read regs side t h) at (text_length (form_of t) (touched (events_of t)) (survey_in regs side t).memory (events_of t) (text_whole regs side t h).fits)
