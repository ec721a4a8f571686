-- What is written is read back: each line is read as the record that it is the print of, so the starting values fill an empty memory up to
-- the one that was written, and the events come one by one; each location that they touch has its line. Assumes nothing.
use Prim.Native.Nat.{ℕ, ◌+◌, ◌/◌, ◌≤◌}
use mathlib.Core.Path.{◌≡◌, refl, ◌∙◌}
use mathlib.Core.Bool.{Bool, cond, not, true, false, true≢false}
use mathlib.Core.List.{List, [], ◌∷◌, ◌++◌, map, append_assoc, append-nil}
use native.Mathlib.Omega.{arith}
use lib.Dec.{eqb}
use lib.ListN.{length}
use borrow.Author.Tests.{eqb-true, eqb-false, le-ltb, lt-leb, not-true}
use Rattle.laws.proofs.Cases.{cases, either}
use Rattle.laws.proofs.Lists.{Each, Free, each_append, every, every_each}
use Rattle.event.specs.Answer.{done}
use Rattle.memory.specs.Memory.{empty}
use Rattle.event.specs.declared.Event.{Event}
use Rattle.memory.specs.declared.Memory.{Memory}
use Rattle.text.specs.Cut.{cut}
use Rattle.text.specs.Line.{split, said_in}
use Rattle.text.specs.Word.{same_bytes}
use Rattle.text.proofs.Parts.{cut_part}
use Rattle.text.proofs.Walk.{PartLeft, some_after, some_end, said_on}
use Rattle.record.specs.Form.{header, limit_of}
use Rattle.record.specs.Layout.{event_line, init_line}
use Rattle.record.specs.Record.{Fit, record_of}
use Rattle.uses.specs.Cover.{Start, touched, starts}
use Rattle.trace.specs.Fault.{cover_fault}
use Rattle.trace.specs.Fault.{event_fault_in}
use Rattle.frame.specs.Reading.{headed, lines_fault}
use Rattle.frame.proofs.Heads.{by_lines}
use Rattle.frame.proofs.Lines.{lines_go}
use Rattle.trace.specs.Reading.{SoFar, form_of, trace_layout, events_on, inits_on, events_in, inits_in, start_in, read_as, fault_in, survey_in, events_of, inits_of, read_in, front, room_after_in}
use Rattle.trace.specs.Writing.{text_of, has_line, start_line, text_by, trace_text}
use Rattle.trace.specs.Text.{Fits}
use Rattle.record.specs.declared.form.Form.{Form}
use Rattle.record.specs.declared.form.Form.TheVariants.{One, Two}
use Rattle.record.proofs.Layouts.{event_read, init_read}
use Rattle.record.proofs.Prints.{event_no_lf, init_no_lf}
use Rattle.trace.proofs.Covered.{Heard, each_heard, fit_inside, covered}
use Rattle.uses.proofs.Starts.{Rising, rising_starts, filled_starts}
use Rattle.trace.proofs.Range.{text_length, longest_short}
use Rattle.trace.proofs.Readings.{read_done}
use Rattle.event.specs.Limit.{event_limit}

inits_free : (is : List Start) → Each (Free 10) (map start_line is)
inits_free [] = tt
inits_free (i ∷ is) = (init_no_lf i.0 i.1, inits_free is)

no_lf : (f : Form) → every (λ b. not (eqb b 10)) (header f) ≡ true
no_lf One = refl
no_lf Two = refl

header_free : (f : Form) → Free 10 (header f)
header_free f = every_each (λ b. not (eqb b 10)) (λ b. b ≡ 10 → ⊥) (λ b q. eqb-false b 10 (not-true _ q)) (header f) (no_lf f)

-- a text made of lines that have no LF splits into them again, and nothing stands after its last LF
split_text : (ls : List (List ℕ)) → Each (Free 10) ls → split (text_of ls) ≡ ls ++ ([] ∷ [])
unfolding text_of cut
split_text [] h = refl
split_text (l ∷ ls) h = cut_part 10 l (text_of ls) h.0 ∙ rw (split_text ls h.1)

-- line 1 of a form tells the form
form_of_lem : (f : Form) (ls : List (List ℕ)) → PartLeft ls → cond (headed (header Two) (header f ∷ ls)) Two One ≡ f
unfolding same_bytes
form_of_lem f [] s = absurd s
form_of_lem One (l ∷ ls) s = refl
form_of_lem Two (l ∷ ls) s = refl

module _ (f : Form) where
  -- the parts of a text that come after its starting values
  abbrev pub tail : List Event → List (List ℕ)
  tail es = map (event_line f) es ++ ([] ∷ [])

  -- the lines of events are read without refusal, as the events, and leave the cells alone
  tail_lines : (side k : ℕ) (s : SoFar) (es : List Event) → s.events + length es ≤ event_limit → Each (Fit f) es → lines_fault (trace_layout f) side k s (tail es) ≡ done
  unfolding lines_fault
  tail_lines side k s [] b h = refl
  tail_lines side k s (e ∷ es) b h =
      let q = event_read f e h.0 in
      lines_go (trace_layout f) side k s (event_line f e) (tail es) (some_end (map (event_line f) es)) (rw (q, lt-leb event_limit s.events (omega arith)))
      ∙ rw q (tail_lines side (k + 1) (record { low = 256; events = s.events + 1 }) es (omega arith) h.1)

  tail_events : (es : List Event) → Each (Fit f) es → events_in f (tail es) ≡ es
  unfolding said_in
  tail_events [] h = refl
  tail_events (e ∷ es) h =
      said_on (λ l. events_on (record_of f l)) (event_line f e) (tail es) (some_end (map (event_line f) es)) ∙ rw (event_read f e h.0, tail_events es h.1)

  tail_inits : (es : List Event) → Each (Fit f) es → inits_in f (tail es) ≡ []
  unfolding said_in
  tail_inits [] h = refl
  tail_inits (e ∷ es) h =
      said_on (λ l. inits_on (record_of f l)) (event_line f e) (tail es) (some_end (map (event_line f) es)) ∙ rw (event_read f e h.0) (tail_inits es h.1)

  -- lines of starting values that ascend, before other lines ts: none is refused, and they are read as those values
  module _ (ts : List (List ℕ)) where
    inits_lines : (side : ℕ) → PartLeft ts → ((k low : ℕ) → lines_fault (trace_layout f) side k (record { low = low; events = 0 }) ts ≡ done) → (k low : ℕ) (is : List Start)
        → Rising low is → Each (Heard f) is → lines_fault (trace_layout f) side k (record { low = low; events = 0 }) (map start_line is ++ ts) ≡ done
    inits_lines side s g k low [] r h = g k low
    inits_lines side s g k low ((p, v) ∷ is) r h =
        let q = init_read f p v (omega (arith, r.0)) h.0.value h.0.loud in
        lines_go (trace_layout f) side k (record { low = low; events = 0 }) (init_line p v) (map start_line is ++ ts) (some_after (map start_line is) ts s)
        (rw (q, le-ltb p low r.0.0))
        ∙ rw q (inits_lines side s g (k + 1) (p + 1) is r.1 h.1)

    inits_read : PartLeft ts → (low : ℕ) (is : List Start) → Rising low is → Each (Heard f) is
        → (inits_in f (map start_line is ++ ts) ≡ is ++ inits_in f ts) × (events_in f (map start_line is ++ ts) ≡ events_in f ts)
    inits_read s low [] r h = (refl, refl)
    inits_read s low ((p, v) ∷ is) r h =
        let q = init_read f p v (omega (arith, r.0)) h.0.value h.0.loud in
        let i = inits_read s (p + 1) is r.1 h.1 in
        let o = some_after (map start_line is) ts s in (
          said_on (λ l. inits_on (record_of f l)) (init_line p v) (map start_line is ++ ts) o ∙ rw (q, i.0),
          said_on (λ l. events_on (record_of f l)) (init_line p v) (map start_line is ++ ts) o ∙ rw (q, i.1),
        )

  map_free : (es : List Event) → Each (Free 10) (map (event_line f) es)
  map_free [] = tt
  map_free (e ∷ es) = (event_no_lf f e, map_free es)

  -- the starting values of a trace that have a line, and the parts of its text
  abbrev pub its_inits : Memory → List Event → List Start
  its_inits m es = starts (has_line f (touched es)) 0 m.cells

  abbrev pub its_lines : Memory → List Event → List (List ℕ)
  its_lines m es = map start_line (its_inits m es) ++ tail es

  pub text_parts : (m : Memory) (es : List Event) → split (trace_text f m es) ≡ header f ∷ its_lines m es
  unfolding text_by
  text_parts m es =
      let ls : List (List ℕ) = map start_line (its_inits m es) in
      split_text (header f ∷ ls ++ map (event_line f) es)
      (header_free f, each_append (Free 10) ls (map (event_line f) es) (inits_free (its_inits m es)) (map_free es))
      ∙ rw append_assoc

  pub some_lines : (m : Memory) (es : List Event) → PartLeft (its_lines m es)
  some_lines m es = some_after (map start_line (its_inits m es)) (tail es) (some_end (map (event_line f) es))

  -- a text written in a form is of that form
  pub form_written : (m : Memory) (es : List Event) → form_of (trace_text f m es) ≡ f
  unfolding form_of
  form_written m es = rw (text_parts m es) (form_of_lem f (its_lines m es) (some_lines m es))

  -- a value that is to have no line is 0
  zero_by : (has : ℕ → Bool) (l v : ℕ) → has_line f has l v ≡ false → v ≡ 0
  zero_by has l v h = cases (either (eqb v 0)) (λ z. eqb-true v 0 z) (λ z. absurd (true≢false (rw z at h)))

  module _ (side : ℕ) (m : Memory) (es : List Event) (i : Fits f m es) where
    ascend : Rising 0 (its_inits m es)
    ascend = rising_starts (has_line f (touched es)) 0 0 m.cells (omega arith) (omega (arith, i.size))

    heard : Each (Heard f) (its_inits m es)
    heard = each_heard f (touched es) 0 m.cells i.values

    the_inits : inits_in f (its_lines m es) ≡ its_inits m es
    the_inits = (inits_read (tail es) (some_end (map (event_line f) es)) 0 (its_inits m es) ascend heard).0 ∙ rw (tail_inits es i.events) (append-nil (its_inits m es))

    the_events : events_in f (its_lines m es) ≡ es
    the_events = (inits_read (tail es) (some_end (map (event_line f) es)) 0 (its_inits m es) ascend heard).1 ∙ tail_events es i.events

    the_start : start_in f empty.cells (its_lines m es) ≡ m.cells
    unfolding start_in
    the_start = rw the_inits (rw i.size at (filled_starts (has_line f (touched es)) (zero_by (touched es)) [] m.cells))

    the_lines : lines_fault (trace_layout f) side 2 (trace_layout f).start (its_lines m es) ≡ done
    the_lines =
        inits_lines (tail es) side (some_end (map (event_line f) es))
        (λ k low. tail_lines side k (record { low = low; events = 0 }) es (omega (arith, i.few)) i.events) 2 0 (its_inits m es) ascend heard

    -- and each location that an event touches has its line
    the_cover : cover_fault f side (its_inits m es) es ≡ done
    the_cover = covered f side m.cells es (fit_inside f (length m.cells) es i.size i.events)

    -- Document 01, "Lent room": "The writer makes the `init` lines from that memory and fills exactly the bytes that it counts." What is
    -- written so is read back as that memory and those events, without refusal.
    pub read_written : (regs : List Bool) → event_fault_in regs side 1 m [] es ≡ done
        → (survey_in regs side (trace_text f m es) ≡ read_as (length es) m) × (events_of (trace_text f m es) ≡ es)
    unfolding survey_in fault_in events_of inits_of
    read_written regs h =
        let short : length (trace_text f m es) ≤ limit_of f = omega (arith, text_length f (touched es) m es i, longest_short f) in
        let p = text_parts m es in
        let t = by_lines (trace_layout f) side (trace_text f m es) (its_lines m es) short p (some_lines m es) in
        (rw (form_written m es, t, the_lines, p, the_start, the_inits, the_events, the_cover, h), rw (form_written m es, p) the_events)

    -- so a room that holds the events has them at its front
    pub read_into : (regs : List Bool) (room : List ℕ) → event_fault_in regs side 1 m [] es ≡ done → length es ≤ length room / 6
        → (read_in regs side (trace_text f m es) room ≡ read_as (length es) m)
        × (room_after_in regs side (trace_text f m es) room ≡ front es room)
    read_into regs room h k =
        let w = read_written regs h in
        let d = read_done regs side (trace_text f m es) room (rw w.0) (rw w.0 k) in
        (d.0 ∙ w.0, d.1 ∙ rw w.1)
