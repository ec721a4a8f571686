-- Demand 3 on texts. Texts that are read without refusal have events that are right from their starting memories, which is what the theorem of
-- the rules of change asks; so it speaks of what a check answers, under a list and without one. Assumes nothing.
use Prim.Native.Nat.{ℕ, ◌+◌}
use mathlib.Core.Path.{◌≡◌, ap, sym, ◌∙◌, subst}
use mathlib.Core.Bool.{Bool}
use mathlib.Core.List.{List, [], ◌∷◌}
use lib.Dec.{T}
use lib.ListN.{length}
use Rattle.event.specs.Limit.{places}
use Rattle.memory.specs.Listed.{none_listed}
use Rattle.memory.specs.Memory.{stepped}
use Rattle.event.specs.declared.Event.{Event}
use Rattle.memory.specs.declared.Memory.{Memory}
use Rattle.frame.proofs.Settled.{first_done}
use Rattle.trace.specs.Fault.{event_fault_in}
use Rattle.trace.specs.Reading.{events_of, survey_in, read_in}
use Rattle.trace.proofs.Judged.{fault_parts}
use Rattle.trace.proofs.OneText.{text_whole}
use Rattle.trace.proofs.Readings.{read_passed}
use Rattle.rules.specs.Run.{number}
use Rattle.rules.specs.Demand.{right_in, final, PassedIn}
use Rattle.rules.proofs.Theorem.{demand_3_in}
use Rattle.rules.proofs.Along.{values_in}
use Rattle.rules.proofs.Outcome.{events_number, outcome_in_lem}
use Rattle.rules.proofs.Outcome.{same_memory as memory_kept}
use Rattle.rules.proofs.Unlisted.{verdict_none, view_none}
use Rattle.checker.specs.Demand.{
  source_of,
  target_of,
  entries_for,
  AdmittedIn,
  AcceptedBy,
  AcceptedExactlyIn,
  ValuesBy,
  ValuesAlongIn,
  SameMemoryIn,
  AcceptedExactly,
  ValuesAlong,
  SameMemory,
}
use Rattle.checker.specs.Check.{Lent, source_read_in, target_read_in, entries_read, reading_answer_in, verdict_for, check_in}

module _ (regs : List Bool) where
  -- no fault 6: every event is right
  right_of : (side k : ℕ) (m : Memory) (b es : List Event) → (event_fault_in regs side k m b es).number ≡ 0 → T (right_in regs m es)
  right_of side k m b [] h = tt
  right_of side k m b (e ∷ es) h =
      let f = fault_parts regs side k m b e es h in
      rw f.0.1 (right_of side (k + 1) (stepped m e).memory (e ∷ b) es f.1)

  module _ (side : ℕ) (t room : List ℕ) (z : (read_in regs side t room).answer.number ≡ 0) where
    survey : (survey_in regs side t).answer.number ≡ 0
    survey = rw (read_passed regs side t room z) at z

    pub cells : length (read_in regs side t room).memory.cells ≡ places
    cells = rw (read_passed regs side t room z) (text_whole regs side t survey).fits.size

    events : T (right_in regs (read_in regs side t room).memory (events_of t))
    events = rw (read_passed regs side t room z) (right_of side 1 _ [] (events_of t) (text_whole regs side t survey).sound)

  pub read_all : (l : Lent) → (reading_answer_in regs l).number ≡ 0
      → ((source_read_in regs l).answer.number ≡ 0) × ((target_read_in regs l).answer.number ≡ 0) × ((entries_read l).answer.number ≡ 0)
  unfolding reading_answer_in
  read_all l h = let p = first_done _ _ h in let q = first_done _ _ p.1 in (p.0, q.0, q.1)

  pub passes : (l : Lent) → AdmittedIn regs l
      → PassedIn regs (source_read_in regs l).memory (target_read_in regs l).memory (source_of l) (target_of l) (entries_for l)
  passes l a =
      let r = read_all l a.reading in
      record {
        source_cells = cells 1 l.source l.source_room_of r.0;
        target_cells = cells 2 l.target l.target_room_of r.1;
        source = events 1 l.source l.source_room_of r.0;
        target = events 2 l.target l.target_room_of r.1;
        start = a.start;
        count = a.count;
        entries = a.entries;
      }

  pub judged : (l : Lent) → (reading_answer_in regs l).number ≡ 0 → (check_in regs l).answer ≡ verdict_for regs l
  unfolding check_in
  judged l z = rw z

  pub accepted_exactly_in : AcceptedExactlyIn regs
  unfolding verdict_for
  accepted_exactly_in l a = rw (judged l a.reading) (demand_3_in regs _ _ _ _ _ (passes l a))

  pub values_along_in : ValuesAlongIn regs
  values_along_in l a u r x i =
      let p = passes l a in
      let n = events_number 1 (source_of l) in
      let v = values_in regs (source_read_in regs l).memory (number 1 (source_of l)) u r p.source_cells (rw n p.source) x i in
      (v.0, v.1 ∙ ap (final (source_read_in regs l).memory) n)

  pub same_memory_in : SameMemoryIn regs
  unfolding verdict_for
  same_memory_in l a h = outcome_in_lem regs _ _ _ _ _ (passes l a) (sym (judged l a.reading) ∙ h)

-- without a list
pub accepted_exactly : AcceptedExactly
accepted_exactly = subst (AcceptedBy none_listed) view_none (accepted_exactly_in none_listed)

pub values_along : ValuesAlong
values_along = subst (ValuesBy none_listed) view_none (values_along_in none_listed)

pub same_memory : SameMemory
unfolding verdict_for
same_memory l a h = memory_kept _ _ _ _ _ (passes none_listed l a) (sym (verdict_none _ _ _ _ _) ∙ (sym (judged none_listed l a.reading) ∙ h))
