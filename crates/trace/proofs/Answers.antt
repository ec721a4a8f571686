-- Which answers a trace's reading gives: 1 to 6, 17, 20 and 21, with its side; the writer: 3, 5, 6, 17, 18 and 19, with side 0; and a move: the reading's and
-- 19 with side 1, and 17 with side 0. Assumes nothing.
use Prim.Native.Nat.{ℕ, ◌+◌, ◌≤◌, ◌/◌}
use mathlib.Core.Bool.{Bool, true}
use mathlib.Core.List.{List, [], ◌∷◌}
use mathlib.Core.Logic.{◌⊎◌, inl, inr}
use mathlib.Core.Path.{◌≡◌, refl}
use native.Mathlib.Omega.{arith}
use lib.Dec.{eqb, leb, ltb}
use lib.ListN.{length}
use borrow.Author.Tests.{eq-eqb}
use Rattle.std.specs.Prelude.{Option, Some, None}
use Rattle.laws.proofs.Cases.{by_cond}
use Rattle.laws.proofs.Lists.{every}
use Rattle.laws.specs.Has.{has}
use Rattle.event.specs.Answer.{answer, done, first, text_sides, InTable}
use Rattle.memory.specs.Listed.{stepped_in}
use Rattle.memory.specs.Memory.{stepped}
use Rattle.event.specs.declared.Answer.{Answer}
use Rattle.event.specs.declared.Event.{Event}
use Rattle.memory.specs.declared.Memory.{Memory}
use Rattle.event.proofs.Answers.{Among, Given, none, one, among_first, among_more, given_among, given_cond, given_more, given_first, given_in, in_cond, in_first, ranked}
use Rattle.text.specs.Line.{split, body}
use Rattle.frame.specs.Reading.{headed, head_fault, lines_fault, text_fault}
use Rattle.frame.proofs.Answers.{lines_given, head_among, head_in}
use Rattle.record.specs.Form.{header, limit_of}
use Rattle.record.specs.Record.{record_of}
use Rattle.record.specs.declared.form.Form.{Form}
use Rattle.record.specs.declared.Record.{Record}
use Rattle.record.specs.declared.Record.TheVariants.{Init, AnEvent}
use Rattle.uses.specs.Cover.{touched, lined, lacks_line, is_idle}
use Rattle.trace.specs.Fault.{cover_fault}
use Rattle.uses.specs.Use.{clashes_in}
use Rattle.trace.specs.Fault.{fault_at, event_fault_in}
use Rattle.uses.specs.Bad.{first_bad}
use Rattle.trace.specs.Reading.{SoFar, form_of, line_fault, trace_layout, start_of, inits_of, events_of, fault_in, survey_in, read_in}
use Rattle.trace.specs.Moving.{moved_text, move_head, move_fault_in, move_in}
use Rattle.trace.specs.Writing.{count_of, room_events, layout_fault, lost, trace_text, room_fault_in, in_out, write_fault_in, write_in}
use Rattle.trace.specs.Reading.{TraceRead}
use Rattle.event.specs.Limit.{event_limit}

-- the numbers of a reading's refusals, and those of lines, of starting values and of events
abbrev pub trace_faults : List ℕ
trace_faults = 1 ∷ 2 ∷ 3 ∷ 4 ∷ 5 ∷ 6 ∷ 17 ∷ 20 ∷ 21 ∷ []

abbrev line_faults : List ℕ
line_faults = 2 ∷ 3 ∷ 4 ∷ []

abbrev cover_faults : List ℕ
cover_faults = 20 ∷ 21 ∷ []

abbrev event_faults : List ℕ
event_faults = 5 ∷ 6 ∷ []

line_fault_lem : (s : SoFar) (r : Option Record) → (line_fault s r ≡ 0) ⊎ (has (line_fault s r) line_faults ≡ true)
line_fault_lem s None = inr refl
line_fault_lem s (Some (Init p v)) = by_cond (λ (f : ℕ). (f ≡ 0) ⊎ (has f line_faults ≡ true)) (ltb p s.low) (inr refl) (inl refl)
line_fault_lem s (Some (AnEvent e)) = by_cond (λ (f : ℕ). (f ≡ 0) ⊎ (has f line_faults ≡ true)) (leb event_limit s.events) (inr refl) (inl refl)

events_given : (regs : List Bool) (side k : ℕ) (m : Memory) (before es : List Event) → 1 ≤ k → Given event_faults side (event_fault_in regs side k m before es)
unfolding event_fault_in
events_given regs side k m before [] h = none
events_given regs side k m before (e ∷ es) h =
    given_first event_faults side {a = fault_at side k (clashes_in regs before e) (stepped_in regs m e).right}
    (given_cond _ side (clashes_in regs before e) (one refl h) (given_cond _ side (stepped_in regs m e).right none (one refl h)))
    (events_given regs side (k + 1) (stepped m e).memory (e ∷ before) es (omega arith))

-- the first that is bad, of whatever
bad_given : {A : Type 0} (bad : A → Bool) (number side k : ℕ) (es : List A) → 1 ≤ k → Given (number ∷ []) side (first_bad bad number side k es)
unfolding first_bad
bad_given bad number side k [] h = none
bad_given bad number side k (e ∷ es) h =
    given_cond _ side (bad e) (one (rw (eq-eqb number number refl)) h) (bad_given bad number side (k + 1) es (omega arith))

module _ (regs : List Bool) (side : ℕ) (t room : List ℕ) where
  abbrev head : Answer
  head = head_fault side (limit_of (form_of t)) (header (form_of t)) t

  abbrev lines : Answer
  lines = lines_fault (trace_layout (form_of t)) side 2 (record { low = 0; events = 0 }) (body (split t))

  abbrev cover : Answer
  cover = cover_fault (form_of t) side (inits_of t) (events_of t)

  abbrev events : Answer
  events = event_fault_in regs side 1 (start_of t) [] (events_of t)

  lines_are : Given line_faults side lines
  lines_are = lines_given (trace_layout (form_of t)) line_faults side refl (λ s l. line_fault_lem s (record_of (form_of t) l)) 2 _ (body (split t)) (omega arith)

  events_are : Given event_faults side events
  events_are = events_given regs side 1 (start_of t) [] (events_of t) (omega arith)

  cover_is : Given cover_faults side cover
  unfolding cover_fault
  cover_is =
      given_first cover_faults side {a = first_bad (lacks_line (form_of t) (lined (inits_of t))) 20 side 1 (events_of t)}
      (given_more _ _ side refl (bad_given (lacks_line (form_of t) (lined (inits_of t))) 20 side 1 (events_of t) (omega arith)))
      (given_more _ _ side refl (bad_given (is_idle (form_of t) (touched (events_of t))) 21 side 2 (inits_of t) (omega arith)))

  -- what holds of its first refusal, and of 17, holds of what it answers
  by_fault : (P : Answer → Type 0) → P done → P (first (first head lines) (first cover events)) → ((n : ℕ) → P (answer 17 side n)) → P (read_in regs side t room).answer
  unfolding read_in survey_in fault_in text_fault
  by_fault P z h f =
      let s = by_cond (λ (r : TraceRead). P r.answer) (eqb (first (first head lines) (first cover events)).number 0) z h in
      by_cond (λ (r : TraceRead). P r.answer) (leb (survey_in regs side t).events (length room / 6)) s (f _)

  pub read_among : Among trace_faults (read_in regs side t room).answer
  read_among =
      by_fault (Among trace_faults) none
      (among_first _ (first head lines) (first cover events)
      (among_first _ head lines (among_more _ _ refl (head_among side (limit_of (form_of t)) (header (form_of t)) t)) (among_more _ _ refl (given_among _ side lines_are)))
      (among_first _ cover events (among_more _ _ refl (given_among _ side cover_is)) (among_more _ _ refl (given_among _ side events_are))))
      (λ n. one refl)

  -- every answer of a trace's reading is a row of the table, for a side that the table has there
  refusal_in : has side text_sides ≡ true → every (ranked side) line_faults ≡ true → every (ranked side) cover_faults ≡ true
      → every (ranked side) event_faults ≡ true → InTable (first (first head lines) (first cover events))
  refusal_in s l c e =
      in_first (first head lines) (first cover events)
      (in_first head lines (head_in side (limit_of (form_of t)) (header (form_of t)) t s) (given_in _ side l lines_are))
      (in_first cover events (given_in _ side c cover_is) (given_in _ side e events_are))

  known_in : has side text_sides ≡ true → every (ranked side) line_faults ≡ true → every (ranked side) cover_faults ≡ true
      → every (ranked side) event_faults ≡ true → ((n : ℕ) → InTable (answer 17 side n)) → InTable (read_in regs side t room).answer
  known_in s l c e f = by_fault InTable refl (refusal_in s l c e) f

pub source_in : (regs : List Bool) (t room : List ℕ) → InTable (read_in regs 1 t room).answer
source_in regs t room = known_in regs 1 t room refl refl refl refl (λ n. refl)

pub target_in : (regs : List Bool) (t room : List ℕ) → InTable (read_in regs 2 t room).answer
target_in regs t room = known_in regs 2 t room refl refl refl refl (λ n. refl)

fault_in_lem : (regs : List Bool) (t : List ℕ) → InTable (fault_in regs 1 t)
unfolding fault_in text_fault
fault_in_lem regs t = refusal_in regs 1 t [] refl refl refl refl

-- every answer of the writer is; 17 is told alike of all texts that are handed back
out_in : (n : ℕ) (out : List ℕ) → InTable (in_out n out)
out_in n out = in_cond (leb n (length out)) (answer 0 0 n) (answer 17 0 n) refl refl

pub written_in : (regs : List Bool) (f : Form) (m : Memory) (room out : List ℕ) → InTable (write_in regs f m room out)
unfolding write_in write_fault_in room_fault_in
written_in regs f m room out =
    let l = layout_fault 1 (room_events room) in
    let e = event_fault_in regs 0 1 m [] (room_events room) in
    in_first (write_fault_in regs f m room) (in_out (length (trace_text f m (room_events room))) out)
    (in_first (room_fault_in regs m room) (lost f 0 1 (room_events room))
    (in_cond (ltb event_limit (count_of room)) (answer 3 0 (event_limit + 1)) (first l e) refl
    (in_first l e (given_in _ 0 refl (bad_given _ 18 0 1 (room_events room) (omega arith)))
    (given_in _ 0 refl (events_given regs 0 1 m [] (room_events room) (omega arith)))))
    (given_in _ 0 refl (bad_given _ 19 0 1 (room_events room) (omega arith))))
    (out_in _ out)

-- every answer of a move is
pub moved_in : (regs : List Bool) (to : Form) (t out : List ℕ) → InTable (move_in regs to t out)
unfolding move_in move_fault_in move_head
moved_in regs to t out =
    in_first (move_fault_in regs to t) (in_out (length (moved_text to t)) out)
    (in_first (move_head to t) (first (fault_in regs 1 t) (lost to 1 1 (events_of t)))
    (in_cond (ltb (limit_of (form_of t)) (length t)) (answer 1 1 0) _ refl (in_cond (headed (header to) (split t)) (answer 2 1 1) done refl refl))
    (in_first (fault_in regs 1 t) (lost to 1 1 (events_of t)) (fault_in_lem regs t) (given_in _ 1 refl (bad_given _ 19 1 1 (events_of t) (omega arith)))))
    (out_in _ out)
