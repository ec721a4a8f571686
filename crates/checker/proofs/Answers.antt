-- A check by its readings: the first that refuses decides and no room changes; where none does, the rooms are filled. Ahead of them, a list's. Assumes nothing.
use Prim.Native.Nat.{ℕ}
use mathlib.Core.Path.{◌≡◌}
use mathlib.Core.Bool.{Bool}
use mathlib.Core.List.{List}
use borrow.Author.Tests.{ne_eqb}
use Rattle.event.specs.declared.Answer.{Answer}
use Rattle.event.specs.Told.{Refuses}
use Rattle.trace.specs.Reading.{events_of, front, read_as, refused as trace_refused}
use Rattle.memory.specs.declared.Memory.{Memory}
use Rattle.trace.specs.declared.reading.Held.{Held}
use Rattle.matching.specs.Reading.{entries_of, front as entry_front, refused as entries_refused}
use Rattle.registers.specs.Reading.{ListRead, refused as refused_list, read_as as list_as}
use Rattle.checker.specs.Check.{
  Lent,
  source_read_in,
  target_read_in,
  entries_read,
  reading_answer_in,
  verdict_for,
  held_of,
  refused,
  HoldsTexts,
  check_in,
  source_room_in,
  target_room_in,
  entry_room_in,
  ChecksIn,
  check_listed,
  ChecksListed,
}
use Rattle.checker.specs.declared.Checked.{Checked}

module _ (regs : List Bool) (l : Lent) where
  -- the source, the target or the matching refuses
  pub by_source : (a : Answer) → Refuses a → trace_refused a ≡ source_read_in regs l → a ≡ reading_answer_in regs l
  unfolding reading_answer_in
  by_source a r q = rw (← q, r)

  module _ (n : ℕ) (m : Memory) (p : read_as n m ≡ source_read_in regs l) where
    pub by_target : (a : Answer) → Refuses a → trace_refused a ≡ target_read_in regs l → a ≡ reading_answer_in regs l
    unfolding reading_answer_in
    by_target a r q = rw (← p, ← q, r)

    pub by_entries : (k : ℕ) (w : Memory) → read_as k w ≡ target_read_in regs l → (a : Answer) → Refuses a → entries_refused a ≡ entries_read l
        → a ≡ reading_answer_in regs l
    unfolding reading_answer_in
    by_entries k w q a r e = rw (← p, ← q, ← e)

  -- which is handed back
  pub texts_refused : (a : Answer) → Refuses a → a ≡ reading_answer_in regs l → (r : Checked) → r ≡ refused a
      → ChecksIn regs l r l.source_room_of l.target_room_of l.entry_room_of
  unfolding check_in source_room_in target_room_in entry_room_in
  texts_refused a z q r e = record { result = rw (← q, z) e; source = rw (← q, z); target = rw (← q, z); entries = rw (← q, z) }

  -- none refuses
  pub texts_read : {read : Held × Held × ℕ} → HoldsTexts regs l read → (reading_answer_in regs l).number ≡ 0
  unfolding reading_answer_in
  texts_read h = rw (← h.source, ← h.target, ← h.entries)

  pub checks_judged : (r : Checked) (s t e : List ℕ) → (reading_answer_in regs l).number ≡ 0
      → r
      ≡ record {
        answer = verdict_for regs l;
        source = held_of (source_read_in regs l);
        target = held_of (target_read_in regs l);
        entries = (entries_read l).entries;
      }
      → s ≡ front (events_of l.source) l.source_room_of → t ≡ front (events_of l.target) l.target_room_of
      → e ≡ entry_front (entries_of l.matching) l.entry_room_of → ChecksIn regs l r s t e
  unfolding check_in source_room_in target_room_in entry_room_in
  checks_judged r s t e z h p q k = record { result = rw z h; source = rw z p; target = rw z q; entries = rw z k }

-- with the text of a list: it refuses, or the check is the one under what it lists
module _ (list : ListRead) (l : Lent) where
  pub by_list : list.answer.number ≡ 0 → check_listed list l ≡ check_in list.listed l
  unfolding check_listed
  by_list z = rw z

  pub by_refused : (list.answer.number ≡ 0 → ⊥) → check_listed list l ≡ refused list.answer
  unfolding check_listed
  by_refused h = rw (ne_eqb _ _ h)

  pub listed_refused : (a : Answer) → Refuses a → refused_list a ≡ list → (r : Checked) → r ≡ refused a
      → ChecksListed list l r l.source_room_of l.target_room_of l.entry_room_of
  unfolding check_listed
  listed_refused a r q c e = record { result = rw (← q, r) e; source = rw (← q, r); target = rw (← q, r); entries = rw (← q, r) }

  pub listed_checks : (marks : List Bool) (r : Checked) (s t e : List ℕ) → list_as marks ≡ list → ChecksIn marks l r s t e → ChecksListed list l r s t e
  unfolding check_listed
  listed_checks marks r s t e q c =
      record { result = rw (← q) c.result; source = rw (← q) c.source; target = rw (← q) c.target; entries = rw (← q) c.entries }
