-- A reading among its starting values, one line at a time; once a line is no starting value, what is left is a reading of events.
-- Assumes nothing.
use Prim.Native.Nat.{ℕ, ◌+◌, ◌≤◌, ◌<◌}
use mathlib.Core.Path.{◌≡◌, refl, ap, sym, ◌∙◌}
use mathlib.Core.Bool.{Bool, true, false}
use mathlib.Core.List.{List, [], ◌∷◌, ◌++◌, append_assoc, append-nil}
use native.Mathlib.Omega.{arith}
use lib.ListN.{length, set, replicate, length-set, get_or-replicate, get_or-eq_default}
use lib.Seq.{get_or-set_same, get_or-set_other}
use borrow.Author.Tests.{lt-ltb, le-ltb}
use Rattle.std.specs.Prelude.{Some, None, Option}
use Rattle.laws.proofs.Cases.{cases, side}
use Rattle.event.specs.Answer.{answer}
use Rattle.event.specs.declared.Event.{Event}
use Rattle.memory.specs.Memory.{empty}
use Rattle.memory.specs.declared.Memory.{Memory}
use Rattle.text.specs.Line.{line_at, split_from, said_in}
use Rattle.text.proofs.Walk.{part, by_line, by_end}
use Rattle.frame.specs.Reading.{lines_fault}
use Rattle.frame.proofs.Lines.{lines_pass}
use Rattle.frame.proofs.Tries.{Tried, tried_same, tried_go, tried_stop}
use Rattle.record.specs.Record.{record_of}
use Rattle.record.specs.declared.Record.{Record}
use Rattle.record.specs.declared.Record.TheVariants.{Init, AnEvent}
use Rattle.record.proofs.Records.{init_place}
use Rattle.record.specs.declared.form.Form.{Form}
use Rattle.trace.specs.Reading.{SoFar, line_fault, after_line, trace_layout, inits_in, start_in, refused}
use Rattle.trace.specs.Survey.{init_on, opened, closed, with_inits, with_events, survey_inits, survey_events}
use Rattle.uses.specs.Cover.{Start, marked, so_far}
use Rattle.trace.specs.Reading.{TraceRead}
use Rattle.uses.proofs.Starts.{starts_more}

-- before the first line no location has one
pub unmarked : (j : ℕ) → marked (replicate 256 false) j ≡ false
unmarked j =
    cases (side j 256) (λ h. get_or-replicate {A = Bool} 256 j false false h) (λ h. get_or-eq_default {A = Bool} (replicate 256 false) false h)

-- where no line is refused, no line after the first event is a starting value
abbrev Quiet : Form → SoFar → List (List ℕ) → Type 0
Quiet f s ls = s.low ≡ 256 → inits_in f ls ≡ []

quiet_end : (f : Form) (s : SoFar) → Quiet f s ([] ∷ [])
unfolding said_in
quiet_end f s q = refl

quiet_line : (f : Form) (s : SoFar) (l m : List ℕ) (ls : List (List ℕ)) (r : Option Record) → record_of f l ≡ r → line_fault s r ≡ 0 → Quiet f (after_line s r) (m ∷ ls)
    → Quiet f s (l ∷ m ∷ ls)
unfolding said_in
quiet_line f s l m ls None e h g q = absurd (omega arith)
quiet_line f s l m ls (Some (Init p v)) e h g q =
    let b : p < s.low = omega (arith, init_place f l p v e) in
    absurd (let z : ◌≡◌ {A = ℕ} 4 0 = rw (lt-ltb p s.low b) at h in omega arith)
quiet_line f s l m ls (Some (AnEvent v)) e h g q = rw e (g refl)

quiet : (f : Form) (side k : ℕ) (ls : List (List ℕ)) → (lines_fault (trace_layout f) side k (closed 0) ls).number ≡ 0 → inits_in f ls ≡ []
unfolding said_in
quiet f side k [] h = refl
quiet f side k (l ∷ ls) h =
    lines_pass (trace_layout f) side (Quiet f) (quiet_end f) (λ s l m ls. quiet_line f s l m ls (record_of f l) refl) k (closed 0) (l ∷ ls) tt h refl

module _ (regs : List Bool) (f : Form) (side k low : ℕ) (has : List Bool) (m : Memory) where
  -- lines that are refused alike where no starting value may come, and so are a reading of events
  abbrev Alike : List (List ℕ) → Type 0
  Alike ls = lines_fault (trace_layout f) side k (opened low) ls ≡ lines_fault (trace_layout f) side k (closed 0) ls

  alike : (ls : List (List ℕ)) → Alike ls → survey_inits regs f side k low has m ls ≡ survey_events regs f side k has m ls
  unfolding start_in
  alike ls h =
      tried_same (trace_layout f) refused side k (opened low) (closed 0) (with_inits regs f side has m) (with_events regs f side has m) ls h
      (λ z. rw (quiet f side k ls z, append-nil (so_far has m.cells)))

  -- in a walk, where no line is left, or the line is none of the layout, or an event
  module _ {whole : TraceRead} {t : List ℕ} {at : ℕ} (w : Tried (trace_layout f) refused side whole t k (opened low) (with_inits regs f side has m) at)
      {r : TraceRead} (q : r ≡ survey_events regs f side k has m (split_from t at)) where
    from_here : Alike (split_from t at) → r ≡ whole
    from_here h = q ∙ sym (w.same ∙ alike (split_from t at) h)

    pub inits_none : line_at t at ≡ None → r ≡ whole
    unfolding lines_fault
    inits_none e = from_here (by_end Alike t at e refl (λ l. refl))

    pub inits_refused : {to : ℕ} → line_at t at ≡ Some to → record_of f (part t at to) ≡ None → r ≡ whole
    unfolding lines_fault
    inits_refused e h = from_here (by_line (λ ps qs. Alike ps) t at e (λ n ls. rw h))

    pub inits_event : {to : ℕ} → line_at t at ≡ Some to → (v : Event) → record_of f (part t at to) ≡ Some (AnEvent v) → r ≡ whole
    unfolding lines_fault
    inits_event e v h = from_here (by_line (λ ps qs. Alike ps) t at e (λ n ls. rw h))

  -- a starting value is put into its cell
  pub inits_go : (l n : List ℕ) (ls : List (List ℕ)) {p v : ℕ} → record_of f l ≡ Some (Init p v) → low ≤ p → p < length m.cells → p < length has
      → ((j : ℕ) → low ≤ j → marked has j ≡ false) → {i : ℕ} → i ≡ p
      → with_inits regs f side has m (l ∷ n ∷ ls) ≡ with_inits regs f side (set has i true) (record { cells = set m.cells i v }) (n ∷ ls)
  unfolding said_in start_in
  inits_go l n ls {p} {v} h o c d none q =
      let more : so_far (set has p true) (set m.cells p v) ≡ so_far has m.cells ++ (p, v) ∷ [] =
      starts_more (marked has) (marked (set has p true)) p v m.cells c (λ n z. none n (omega arith)) (get_or-set_same has p true false d)
      (λ n z. get_or-set_other has p n true false z) in
      rw (q, h, more, append_assoc (so_far has m.cells) ((p, v) ∷ []) (inits_in f (n ∷ ls)))

-- a line that has a starting value is its line, and the location is in range
init_is : (r : Option Record) (p v : ℕ) → init_on r ≡ Some (p, v) → r ≡ Some (Init p v)
init_is None p v h = absurd (let z : ◌≡◌ {A = ℕ} 0 1 = cc in omega arith)
init_is (Some (Init q w)) p v h = let e : (q, w) ≡ (p, v) = cc in ap (λ (s : Start). Some (Init s.0 s.1)) e
init_is (Some (AnEvent e)) p v h = absurd (let z : ◌≡◌ {A = ℕ} 0 1 = cc in omega arith)

pub line_place : (f : Form) (l : List ℕ) (p v : ℕ) → record_of f l ≡ Some (Init p v) → p < 256
line_place f l p v h = omega (arith, init_place f l p v h)

pub init_in : (f : Form) (l : List ℕ) (s : Start) → init_on (record_of f l) ≡ Some s → s.0 < 256
init_in f l s h = line_place f l s.0 s.1 (init_is (record_of f l) s.0 s.1 h)

-- Some starting values were read, which left the memory and the marks, and none is marked from the location `low` on. Assumes nothing.
module _ (regs : List Bool) (form : Form) (text : List ℕ) (from side : ℕ) where
  abbrev whole : TraceRead
  whole = survey_inits regs form side 2 0 (replicate 256 false) empty (split_from text from)

  pub record Starting (start : Memory) (has : List Bool) (at k low : ℕ) : Type 0 where
    pub second : 2 ≤ k
    pub size : length start.cells ≡ 256
    pub marks : length has ≡ 256
    pub none : (j : ℕ) → low ≤ j → marked has j ≡ false
    pub walk : Tried (trace_layout form) refused side whole text k (opened low) (with_inits regs form side has start) at

  pub starting : 2 ≤ from → Starting empty (replicate 256 false) from 2 0
  starting h = record { second = omega arith; size = refl; marks = refl; none = λ j b. unmarked j; walk = record { lined = h; same = refl } }

  module _ (start : Memory) (has : List Bool) (at k low : ℕ) (w : Starting start has at k low) where
    -- the places that the reading of events is handed
    pub handed : (k ≤ at) × (0 < at)
    handed = (w.walk.lined, omega (arith, w.second, w.walk.lined))

    -- what is left is a reading of events where no line is left, or the line is no starting value
    abbrev events : TraceRead
    events = survey_events regs form side k has start (split_from text at)

    pub left_none : line_at text at ≡ None → events ≡ whole
    left_none e = inits_none regs form side k low has start w.walk refl e

    pub left_other : {to : ℕ} → line_at text at ≡ Some to → init_on (record_of form (part text at to)) ≡ None → events ≡ whole
    left_other {to} e h = by (record_of form (part text at to)) refl h where
      by : (r : Option Record) → record_of form (part text at to) ≡ r → init_on r ≡ None → events ≡ whole
      by None q h = inits_refused regs form side k low has start w.walk refl e q
      by (Some (Init p v)) q h = absurd (let z : ◌≡◌ {A = ℕ} 0 1 = cc in omega arith)
      by (Some (AnEvent v)) q h = inits_event regs form side k low has start w.walk refl e v q

    module _ (to : ℕ) (here : line_at text at ≡ Some to) (p v : ℕ) (says : init_on (record_of form (part text at to)) ≡ Some (p, v)) where
      its : record_of form (part text at to) ≡ Some (Init p v)
      its = init_is (record_of form (part text at to)) p v says

      -- it is not above those before it
      pub init_stops : p < low → refused (answer 4 side k) ≡ whole
      init_stops h = tried_stop w.walk refl here refl refl (rw (its, lt-ltb p low h))

      -- one more
      pub init_read : low ≤ p → (i : ℕ) → i ≡ p → Starting (record { cells = set start.cells i v }) (set has i true) (to + 1) (k + 1) (p + 1)
      init_read o i q =
          let b = init_place form (part text at to) p v its in
          record {
            second = omega (arith, w.second);
            size = simp length-set w.size;
            marks = simp length-set w.marks;
            none = λ j b. get_or-set_other has i j true false (λ z. omega (arith, q)) ∙ w.none j (omega arith);
            walk =
                tried_go w.walk here refl (rw (its, le-ltb p low o)) (rw its)
                (λ m ls. inits_go regs form side k low has start (part text at to) m ls its o (omega (arith, b, w.size)) (omega (arith, b, w.marks)) w.none q);
          }
