-- A check that accepts has read few events and few entries, which stand in the rooms: so a run begins, and its steps are counted. Assumes nothing.
use mathlib.Core.Path.{◌≡◌, sym, ◌∙◌, ap}
use mathlib.Core.Bool.{Bool, true, false}
use mathlib.Core.List.{List}
use Prim.Native.Nat.{ℕ, ◌≤◌}
use native.Mathlib.Omega.{arith}
use lib.ListN.{length, take}
use lib.Dec.{eqb}
use borrow.Author.Tests.{eq-eqb, ne_eqb, eqb-false}
use Rattle.event.specs.Told.{Refuses}
use Rattle.event.specs.declared.Answer.{Answer}
use Rattle.registers.specs.Reading.{refused as refused_list, read_as as list_as}
use Rattle.laws.specs.Has.{has}
use Rattle.trace.specs.Reading.{events_of, read_in, survey_in}
use Rattle.trace.proofs.OneText.{text_whole}
use Rattle.trace.proofs.Readings.{counts, read_passed}
use Rattle.rules.proofs.Entries.{entries}
use Rattle.registers.specs.Reading.{ListRead}
use Rattle.checker.specs.Check.{ChecksIn, Lent, check_in, entries_read, entry_room_in, refused}
use Rattle.checker.specs.Demand.{AdmittedIn, entries_for, premise, source_of, target_of}
use Rattle.checker.specs.declared.Checked.{Checked}
use Rattle.checker.proofs.Admitted.{admitted_exactly_in}
use Rattle.checker.proofs.Demand3.{read_all}
use Rattle.checker.proofs.Filled.{Entered, entered_front}
use Rattle.changes.specs.Apply.{front}
use Rattle.course.specs.Cost.{cost}
use Rattle.beginning.specs.Start.{StartsIn, StartsListed, not_begun, started_in, started_listed, counted}
use Rattle.beginning.specs.declared.Started.{Started}
use Rattle.event.specs.Limit.{event_limit}

-- ---- what was read

module _ (regs : List Bool) (side : ℕ) (t room : List ℕ) (z : (read_in regs side t room).answer.number ≡ 0) where
  survey : (survey_in regs side t).answer.number ≡ 0
  survey = rw (read_passed regs side t room z) at z

  few_events : length (events_of t) ≤ event_limit
  few_events = (text_whole regs side t survey).fits.few

  events_many : (read_in regs side t room).events ≡ length (events_of t)
  events_many = rw (read_passed regs side t room z) (counts regs side t survey)

-- ---- an accepted matching

module _ (regs : List Bool) (l : Lent) (z : (check_in regs l).answer.number ≡ 0) where
  pub admitted : AdmittedIn regs l
  admitted = (admitted_exactly_in regs l).1 (ap (λ n. has n premise) z)

  pub source_few : length (source_of l) ≤ event_limit
  source_few = few_events regs 1 l.source l.source_room_of (read_all regs l admitted.reading).0

  pub target_few : length (target_of l) ≤ event_limit
  target_few = few_events regs 2 l.target l.target_room_of (read_all regs l admitted.reading).1

  pub standing : (check_in regs l).source.events ≡ length (source_of l)
  unfolding check_in
  standing = rw admitted.reading (events_many regs 1 l.source l.source_room_of (read_all regs l admitted.reading).0)

  pub aimed : (check_in regs l).target.events ≡ length (target_of l)
  unfolding check_in
  aimed = rw admitted.reading (events_many regs 2 l.target l.target_room_of (read_all regs l admitted.reading).1)

  pub entries_few : length (entries_for l) ≤ event_limit
  entries_few =
      let e = (entries (length (target_of l)) (source_of l) (entries_for l) admitted.count admitted.entries).many in
      let f = source_few in
      omega arith

  held : Entered l.matching (entries_read l).entries (entry_room_in regs l)
  unfolding entry_room_in
  held = rw admitted.reading (entered_front l.matching l.entry_room_of (read_all regs l admitted.reading).2)

  entries_counted : (check_in regs l).entries ≡ (entries_read l).entries
  unfolding check_in
  entries_counted = rw admitted.reading

  pub entries_inside : (check_in regs l).entries ≤ length (entry_room_in regs l)
  entries_inside = rw entries_counted held.inside

  pub entries_there : take (check_in regs l).entries (entry_room_in regs l) ≡ entries_for l
  entries_there = rw entries_counted held.front

-- ---- what a check handed back and left

-- the entries of a room, as a part from its start
abbrev pub entries_in : Checked → List ℕ → List ℕ
entries_in c er = take c.entries er

module _ (regs : List Bool) (l : Lent) (c : Checked) {sr tr er : List ℕ} (h : ChecksIn regs l c sr tr er) (z : c.answer.number ≡ 0) where
  answered : (check_in regs l).answer.number ≡ 0
  answered = ap (λ (x : Checked). x.answer.number) (sym h.result) ∙ z

  pub source_fits : c.source.events ≤ event_limit
  source_fits = rw (h.result, standing regs l answered) (source_few regs l answered)

  pub target_fits : c.target.events ≤ event_limit
  target_fits = rw (h.result, aimed regs l answered) (target_few regs l answered)

  pub entries_fit : c.entries ≤ length er
  entries_fit = rw (h.result, h.entries) (entries_inside regs l answered)

  entries_are : entries_in c er ≡ entries_for l
  entries_are = rw (h.result, h.entries) (entries_there regs l answered)

  pub entries_fewer : length (entries_in c er) ≤ event_limit
  entries_fewer = rw entries_are (entries_few regs l answered)

  pub accepts : (tags : List ℕ) {after : List ℕ} (n : ℕ) → after ≡ front (counted 0 c.source.events) tags → n ≡ cost c.target.events (entries_in c er)
      → StartsIn regs l tags (record { checked = c; run = record { begun = true; standing = c.source.events }; cost = n }) sr tr er after
  accepts tags n f q =
      let e = eq-eqb (check_in regs l).answer.number 0 answered in
      let aim : c.target.events ≡ length (target_of l) = ap (λ (x : Checked). x.target.events) h.result ∙ aimed regs l answered in
      let k : n ≡ cost (length (target_of l)) (entries_for l) = q ∙ (ap (cost c.target.events) entries_are ∙ ap (λ j. cost j (entries_for l)) aim) in
      record {
        result = rw (e, ← h.result, k);
        source = h.source;
        target = h.target;
        entries = h.entries;
        left = f ∙ rw (e, ← h.result);
      }

pub refuses : (regs : List Bool) (l : Lent) (c : Checked) (tags : List ℕ) (r : Started) {sr tr er : List ℕ} → ChecksIn regs l c sr tr er
    → (c.answer.number ≡ 0 → ⊥) → r ≡ not_begun c → StartsIn regs l tags r sr tr er tags
refuses regs l c tags r h z q =
    let e = ne_eqb (check_in regs l).answer.number 0 (λ k. z (ap (λ (x : Checked). x.answer.number) h.result ∙ k)) in
    record { result = q ∙ rw (e, ← h.result); source = h.source; target = h.target; entries = h.entries; left = rw e }

-- ---- with the text of a list: it refuses, or the beginning is the one under what it lists

module _ (list : ListRead) (l : Lent) where
  pub by_list : list.answer.number ≡ 0 → started_listed list l ≡ started_in list.listed l
  unfolding started_listed
  by_list z = rw z

  pub by_refused : (list.answer.number ≡ 0 → ⊥) → started_listed list l ≡ not_begun (refused list.answer)
  unfolding started_listed
  by_refused h = rw (ne_eqb _ _ h)

  pub listed_refused : (tags : List ℕ) (a : Answer) → Refuses a → refused_list a ≡ list → (r : Started) → r ≡ not_begun (refused a)
      → StartsListed list l tags r l.source_room_of l.target_room_of l.entry_room_of tags
  listed_refused tags a h q r e =
      let z : eqb list.answer.number 0 ≡ false = rw (← q) h in
      record {
        result = e ∙ rw (ap (λ (x : ListRead). refused x.answer) q) (sym (by_refused (eqb-false list.answer.number 0 z)));
        source = rw z;
        target = rw z;
        entries = rw z;
        left = rw z;
      }

  pub listed_starts : (marks : List Bool) → list_as marks ≡ list → (tags : List ℕ) (r : Started) (s t e after : List ℕ)
      → StartsIn marks l tags r s t e after → StartsListed list l tags r s t e after
  listed_starts marks q tags r s t e after c =
      let z : list.answer.number ≡ 0 = ap (λ (x : ListRead). x.answer.number) (sym q) in
      let k : StartsIn list.listed l tags r s t e after = rw (← q) c in
      record {
        result = k.result ∙ sym (by_list z);
        source = rw z k.source;
        target = rw z k.target;
        entries = rw z k.entries;
        left = rw z k.left;
      }
