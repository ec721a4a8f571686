-- A reading in the midst of its events, as the code goes through them: what is known before a line, after it, and at the end. Assumes nothing.
use Prim.Native.Nat.{ℕ, ◌+◌, ◌≤◌, ◌<◌}
use mathlib.Core.Bool.{Bool, true, false, cond, ◌||◌}
use mathlib.Core.List.{List, [], ◌∷◌}
use mathlib.Core.Path.{◌≡◌, refl, sym, ◌∙◌, ap, fun_ext}
use native.Mathlib.Omega.{arith}
use borrow.Author.Tests.{le-leb, lt-leb}
use lib.Dec.{eqb}
use lib.ListN.{length, length-set, replicate}
use Rattle.std.specs.Prelude.{Some, None, Result, Ok, Err, ⊤}
use Rattle.std.specs.Result.{result_and}
use Rattle.event.specs.Answer.{answer, done, first}
use Rattle.event.specs.Limit.{last_place, event_limit}
use Rattle.event.specs.Told.{Refuses, Passes, passed}
use Rattle.event.specs.declared.Answer.{Answer}
use Rattle.event.specs.declared.Event.{Event}
use Rattle.event.proofs.Told.{answer_in, Stands, passes_answer, passes_stands, and_answer, and_stands, err_refuses}
use Rattle.kinds.proofs.Lawful.{place_below}
use Rattle.memory.specs.Listed.{listed, is_register, uses_atomically, stepped_in}
use Rattle.memory.specs.Memory.{stepped}
use Rattle.memory.specs.declared.Memory.{Memory}
use Rattle.memory.specs.declared.Stepped.{Stepped}
use Rattle.text.specs.Line.{line_at, split_from, said_in}
use Rattle.text.proofs.Walk.{part, next}
use Rattle.frame.proofs.Tries.{Tried, tried_same, tried_go, tried_stop, tried_open, tried_end}
use Rattle.frame.proofs.Settled.{first_done}
use Rattle.record.specs.Record.{record_of}
use Rattle.record.specs.declared.form.Form.{Form}
use Rattle.record.specs.declared.Record.TheVariants.{AnEvent}
use Rattle.record.proofs.Records.{line_lawful}
use Rattle.uses.specs.Bad.{first_bad}
use Rattle.uses.specs.Cover.{touched, lined, lacks_line, is_idle, marked, so_far}
use Rattle.uses.specs.Use.{clashes_in}
use Rattle.uses.specs.Way.{clashing, clashing_in, is_used, ways_after, ways_with}
use Rattle.uses.proofs.Starts.{lined_starts}
use Rattle.uses.proofs.Ways.{or_right, with_inside, clash_inside, Marks, marks_start, marks_told, clash, marks_next, Touch, touch_told, touch_start, touch_next}
use Rattle.trace.specs.Fault.{fault_at}
use Rattle.trace.specs.Reading.{TraceRead, trace_layout, events_in, refused, read_as}
use Rattle.trace.specs.Survey.{closed, survey_events}
use Rattle.trace.proofs.Judged.{fault_free, fault_passes, right_told}
use Rattle.trace.proofs.Surveys.{judged_on, on_start, on_bare, on_idle, on_found, on_end_lem, on_go}

-- what was found so far, of which nothing more refuses
kept : (r : Result ⊤ Answer) → Stands r → first (answer_in r) done ≡ answer_in r
kept (Ok x) h = refl
kept (Err a) h = rw h.0

lacking : (lacks : Bool) (r : Result ⊤ Answer) (a : Answer) → Stands r → first (answer_in r) (cond lacks a done) ≡ cond lacks (first (answer_in r) a) (answer_in r)
lacking true r a h = refl
lacking false r a h = kept r h

-- what is handed back of an event's 20 tells it
lack_passes : (lacks : Bool) (side k : ℕ) → Passes (cond lacks (answer 20 side k) done) (passed (cond lacks (answer 20 side k) done))
lack_passes true side k = (refl, refl)
lack_passes false side k = refl

module _ (regs : List Bool) (form : Form) (text : List ℕ) (from line side : ℕ) (has : List Bool) (start : Memory) where
  abbrev whole : TraceRead
  whole = survey_events regs form side line has start (split_from text from)

  -- n events were read, which left the memory m and are `before`, nearest first; 20 and 5, 6 have found what they have
  pub record Reading (m : Memory) (ways : List ℕ) (bare found : Result ⊤ Answer) (at k n : ℕ) : Type 0 where
    pub counted : n < at
    pub size : length ways ≡ 256
    pub before : List Event
    pub bare_stands : Stands bare
    pub found_stands : Stands found
    pub marks : (answer_in found).number ≡ 0 → Marks ways before
    pub touch : Touch ways before
    pub walk : Tried (trace_layout form) refused side whole text k (closed n)
        (λ ls. judged_on regs form side (so_far has start.cells) start n m before (answer_in bare) (answer_in found) (events_in form ls)) at

  pub reading_start : line ≤ from → 0 < from → Reading start (replicate 256 0) (Ok tt) (Ok tt) from line 0
  reading_start h z = record {
    counted = z;
    size = refl;
    before = [];
    bare_stands = refl;
    found_stands = refl;
    marks = λ _. marks_start;
    touch = touch_start;
    walk = record { lined = h; same = tried_same _ _ _ _ _ _ _ _ _ refl (λ z. on_start _ _ _ _ _ _) };
  }

  module _ (m : Memory) (ways : List ℕ) (bare found : Result ⊤ Answer) (at k n : ℕ) (w : Reading m ways bare found at k n) where
    -- a line that is refused, or none of which the end is told
    pub line_stops : {to : ℕ} → line_at text at ≡ Some to → (x : ℕ) → eqb x 0 ≡ false → (trace_layout form).fault (closed n) (part text at to) ≡ x
        → Refuses (answer x side k) × (refused (answer x side k) ≡ whole)
    line_stops e x z f = (z, tried_stop w.walk refl e refl z f)

    pub line_open : line_at text at ≡ None → at < length text → refused (answer 2 side k) ≡ whole
    line_open e o = tried_open w.walk refl e o refl

    -- an event more
    module _ (to : ℕ) (here : line_at text at ≡ Some to) (e : Event) (its : record_of form (part text at to) ≡ Some (AnEvent e)) (few : n < event_limit)
        (cells : length start.cells ≡ 256) (c : Bool) (clashes : c ≡ clashing_in regs ways e) (ways' : List ℕ) (uses : ways' ≡ ways_with ways e) (s : Stepped) (steps : s ≡ stepped m e)
        (right : Bool) (latest : right ≡ (s.right || is_register regs e)) where
      abbrev b : Result ⊤ Answer
      b = passed (cond (lacks_line form (listed has) e) (answer 20 side (n + 1)) done)

      lacks : Passes (cond (lacks_line form (listed has) e) (answer 20 side (n + 1)) done) b
      lacks = lack_passes (lacks_line form (listed has) e) side (n + 1)

      abbrev f : Result ⊤ Answer
      f = passed (fault_at side (n + 1) c right)

      faults : Passes (fault_at side (n + 1) c right) f
      faults = fault_passes side (n + 1) c right refl

      inside : e.place < 256
      inside = place_below e (line_lawful form (part text at to) e its)

      lacks_is : lacks_line form (listed has) e ≡ lacks_line form (lined (so_far has start.cells)) e
      lacks_is = rw (le-leb e.place last_place (omega (arith, inside)), lined_starts (λ j v. marked has j) start.cells e.place (omega (arith, inside, cells)))

      bare_is : answer_in (result_and bare b)
          ≡ cond (lacks_line form (lined (so_far has start.cells)) e) (first (answer_in bare) (answer 20 side (n + 1))) (answer_in bare)
      bare_is =
          and_answer bare b w.bare_stands ∙ rw (passes_answer _ b lacks, lacks_is)
          (lacking (lacks_line form (lined (so_far has start.cells)) e) bare (answer 20 side (n + 1)) w.bare_stands)

      found_is : answer_in (result_and found f) ≡ first (answer_in found) (fault_at side (n + 1) c right)
      found_is = and_answer found f w.found_stands ∙ ap (first (answer_in found)) (passes_answer _ f faults)

      clash_told : c ≡ (uses_atomically regs e || clashing ways e)
      clash_told = clashes ∙ clash_inside regs ways e inside

      clash_is : (answer_in found).number ≡ 0 → c ≡ clashes_in regs w.before e
      clash_is z = clash_told ∙ ap (λ (x : Bool). uses_atomically regs e || x) (sym (clash ways w.before e inside (w.marks z)))

      right_is : right ≡ (stepped_in regs m e).right
      right_is = latest ∙ right_told regs m e s (line_lawful form (part text at to) e its) steps

      after : ways' ≡ ways_after ways e
      after = uses ∙ with_inside ways e inside

      marks_after : (answer_in (result_and found f)).number ≡ 0 → Marks ways' (e ∷ w.before)
      marks_after z =
          let d = first_done (answer_in found) _ (ap (λ (a : Answer). a.number) (sym found_is) ∙ z) in
          let none = (fault_free side (n + 1) c right d.1).0 in
          marks_told (e ∷ w.before) after
          (marks_next ways w.before e inside (w.marks d.0) w.size (or_right (uses_atomically regs e) _ (sym clash_told ∙ none)))

      pub event_read : Reading s.memory ways' (result_and bare b) (result_and found f) (to + 1) (k + 1) (n + 1)
      unfolding said_in
      event_read = record {
        counted = omega (arith, w.counted, next text at to here);
        size = ap length after ∙ simp length-set w.size;
        before = e ∷ w.before;
        bare_stands = and_stands bare b w.bare_stands (passes_stands _ b lacks);
        found_stands = and_stands found f w.found_stands (passes_stands _ f faults);
        marks = marks_after;
        touch = touch_told (e ∷ w.before) after (touch_next ways e inside w.size w.before w.touch);
        walk =
            tried_go w.walk here refl (rw (its, lt-leb event_limit n few)) (rw its)
            (λ p ls. rw its (on_go regs form side (so_far has start.cells) start n m w.before (answer_in bare) (answer_in found) e c right s _ _ clash_is right_is steps
            bare_is found_is (events_in form (p ∷ ls))));
      }

    -- no line is left, and nothing stands there
    module _ (end : length text ≤ at) where
      ends : whole ≡ judged_on regs form side (so_far has start.cells) start n m w.before (answer_in bare) (answer_in found) []
      unfolding said_in
      ends = tried_end w.walk end refl refl

      module _ (a : Answer) where
        pub ends_bare : bare ≡ Err a → Refuses a × (refused a ≡ whole)
        ends_bare h =
            let r = err_refuses bare a w.bare_stands h in
            (r, sym (ends ∙ (on_bare _ _ _ _ _ _ _ _ _ _ (rw h r) ∙ rw h)))

      -- 21 is asked where no event lacks its line
      module _ (b : bare ≡ Ok tt) (r : Result ⊤ Answer) (idles : Passes (first_bad (is_idle form (is_used ways)) 21 side 2 (so_far has start.cells)) r) where
        abbrev idle : Answer
        idle = first_bad (is_idle form (touched w.before)) 21 side 2 (so_far has start.cells)

        idle_is : answer_in r ≡ idle
        idle_is = passes_answer _ r idles ∙ ap (λ (t : ℕ → Bool). first_bad (is_idle form t) 21 side 2 (so_far has start.cells)) (fun_ext w.touch)

        bare_none : (answer_in bare).number ≡ 0
        bare_none = rw b

        pub ends_idle : (a : Answer) → r ≡ Err a → Refuses a × (refused a ≡ whole)
        ends_idle a h =
            let s = err_refuses r a (passes_stands _ r idles) h in
            let q : a ≡ idle = sym (ap answer_in h) ∙ idle_is in
            (s, ap refused q ∙ sym (ends ∙ on_idle _ _ _ _ _ _ _ _ _ _ bare_none (rw q at s)))

        module _ (i : r ≡ Ok tt) where
          idle_none : idle.number ≡ 0
          idle_none = ap (λ (a : Answer). a.number) (sym idle_is ∙ ap answer_in i)

          pub ends_found : (a : Answer) → found ≡ Err a → Refuses a × (refused a ≡ whole)
          ends_found a h =
              let s = err_refuses found a w.found_stands h in
              (s, sym (ends ∙ (on_found _ _ _ _ _ _ _ _ _ _ bare_none idle_none (rw h s) ∙ rw h)))

          pub ends_read : found ≡ Ok tt → read_as n start ≡ whole
          ends_read h = sym (ends ∙ on_end_lem _ _ _ _ _ _ _ _ _ _ bare_none idle_none (rw h))
