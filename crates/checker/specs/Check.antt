-- Document 01, "Numbers that come back", its order, and "Lent room", and document 02, C-16: a check of three texts, under a list of registers, which without a
-- list lists none. Assumes nothing.
use Rattle.std.specs.Prelude.{ℕ, Bool, cond, List, ◌≡◌, eqb, Result, MatchResult}
use Rattle.event.specs.Room.{whole_events}
use Rattle.event.specs.Answer.{first}
use Rattle.memory.specs.Listed.{none_listed}
use Rattle.memory.specs.Memory.{empty}
use Rattle.event.specs.declared.Answer.{Answer}
use Rattle.event.specs.Told.{Refuses}
use Rattle.trace.specs.Reading.{TraceRead, events_of, front, read_in as trace_read, read_as}
use Rattle.trace.specs.Listed.{unless_listed}
use Rattle.trace.specs.declared.reading.Held.{Held}
use Rattle.matching.specs.Reading.{MatchingRead, entries_of, read_of as matching_read, read_as as entries_as, front as entry_front}
use Rattle.frame.specs.Reading.{settle}
use Rattle.registers.specs.Reading.{ListRead}
use Rattle.rules.specs.Verdict.{verdict_in}
use Rattle.checker.specs.declared.Checked.{Checked}

-- Three texts and the three rooms lent for them.
pub record Lent : Type 0 where
  pub source : List ℕ
  pub target : List ℕ
  pub matching : List ℕ
  pub source_room_of : List ℕ
  pub target_room_of : List ℕ
  pub entry_room_of : List ℕ

-- The texts and rooms at entry.
abbrev pub lent : List ℕ → List ℕ → List ℕ → List ℕ → List ℕ → List ℕ → Lent
lent s t m sr tr er = record { source = s; target = t; matching = m; source_room_of = sr; target_room_of = tr; entry_room_of = er }

-- What is held of a trace that was read.
abbrev pub held_of : TraceRead → Held
held_of r = record { events = r.events; memory = r.memory }

-- What a reading's refusal hands back: no event, no entry, empty memories.
abbrev pub nothing : Held
nothing = record { events = 0; memory = empty }

abbrev pub refused : Answer → Checked
refused a = record { answer = a; source = nothing; target = nothing; entries = 0 }

abbrev pub entries_read : Lent → MatchingRead
entries_read l = matching_read l.matching l.entry_room_of

module _ (regs : List Bool) where
  -- The readings of the traces, each with its side.
  abbrev pub source_read_in : Lent → TraceRead
  source_read_in l = trace_read regs 1 l.source l.source_room_of

  abbrev pub target_read_in : Lent → TraceRead
  target_read_in l = trace_read regs 2 l.target l.target_room_of

  -- The first refusal of a reading: source text, target text, matching text.
  unfoldable pub reading_answer_in : Lent → Answer
  reading_answer_in l = first (source_read_in l).answer (first (target_read_in l).answer (entries_read l).answer)

  -- 7 to 16, or 0.
  unfoldable pub verdict_for : Lent → Answer
  verdict_for l =
      verdict_in regs (source_read_in l).memory.cells (target_read_in l).memory.cells (events_of l.source) (events_of l.target)
      (entries_of l.matching)

  -- What a check hands back.
  unfoldable pub check_in : Lent → Checked
  check_in l =
      settle refused (reading_answer_in l)
      (record { answer = verdict_for l; source = held_of (source_read_in l); target = held_of (target_read_in l); entries = (entries_read l).entries })

  -- What is handed back of two traces and a matching that were read, whose events and entries fill three rooms.
  unfoldable pub judged_in : Held → Held → ℕ → List ℕ → List ℕ → List ℕ → Checked
  judged_in s t n source_room_of target_room_of entry_room_of = record {
    answer =
        verdict_in regs s.memory.cells t.memory.cells (whole_events source_room_of) (whole_events target_room_of) entry_room_of;
    source = s;
    target = t;
    entries = n;
  }

  -- A room afterwards: unchanged by a reading's refusal, of whichever text, else filled.
  abbrev pub unless_refused : Lent → List ℕ → List ℕ → List ℕ
  unless_refused l filled room = cond (eqb (reading_answer_in l).number 0) filled room

  unfoldable pub source_room_in : Lent → List ℕ
  source_room_in l = unless_refused l (front (events_of l.source) l.source_room_of) l.source_room_of

  unfoldable pub target_room_in : Lent → List ℕ
  target_room_in l = unless_refused l (front (events_of l.target) l.target_room_of) l.target_room_of

  unfoldable pub entry_room_in : Lent → List ℕ
  entry_room_in l = unless_refused l (entry_front (entries_of l.matching) l.entry_room_of) l.entry_room_of

-- What is held of three texts that were read is what their readings say.
pub record HoldsTexts (regs : List Bool) (l : Lent) (read : Held × Held × ℕ) : Type 0 where
  pub source : read_as read.0.events read.0.memory ≡ source_read_in regs l
  pub target : read_as read.1.events read.1.memory ≡ target_read_in regs l
  pub entries : entries_as read.2 ≡ entries_read l

-- What the reading of three texts hands back: what is held of them, or the first refusal.
abbrev pub ReadsTexts : List Bool → Lent → Result (Held × Held × ℕ) Answer → Type 0
ReadsTexts regs l result = MatchResult result (HoldsTexts regs l) (λ a. Refuses a × (a ≡ reading_answer_in regs l))

-- What a check is to hand back and to leave in the three rooms.
pub record ChecksIn (regs : List Bool) (l : Lent) (r : Checked) (source_room_of target_room_of entry_room_of : List ℕ) : Type 0 where
  pub result : r ≡ check_in regs l
  pub source : source_room_of ≡ source_room_in regs l
  pub target : target_room_of ≡ target_room_in regs l
  pub entries : entry_room_of ≡ entry_room_in regs l

-- The same without a list.
abbrev pub source_read : Lent → TraceRead
source_read = source_read_in none_listed

abbrev pub target_read : Lent → TraceRead
target_read = target_read_in none_listed

abbrev pub reading_answer : Lent → Answer
reading_answer = reading_answer_in none_listed

abbrev pub verdict_of : Lent → Answer
verdict_of = verdict_for none_listed

abbrev pub check_of : Lent → Checked
check_of = check_in none_listed

abbrev pub source_room_after : Lent → List ℕ
source_room_after = source_room_in none_listed

abbrev pub target_room_after : Lent → List ℕ
target_room_after = target_room_in none_listed

abbrev pub entry_room_after : Lent → List ℕ
entry_room_after = entry_room_in none_listed

abbrev pub Checks : Lent → Checked → List ℕ → List ℕ → List ℕ → Type 0
Checks = ChecksIn none_listed

-- With what was read of a list: its answer comes ahead of the source's, and its refusal stores nothing.
unfoldable pub check_listed : ListRead → Lent → Checked
check_listed list l = settle refused list.answer (check_in list.listed l)

abbrev pub source_room_listed : ListRead → Lent → List ℕ
source_room_listed list l = unless_listed list l.source_room_of (source_room_in list.listed l)

abbrev pub target_room_listed : ListRead → Lent → List ℕ
target_room_listed list l = unless_listed list l.target_room_of (target_room_in list.listed l)

abbrev pub entry_room_listed : ListRead → Lent → List ℕ
entry_room_listed list l = unless_listed list l.entry_room_of (entry_room_in list.listed l)

pub record ChecksListed (list : ListRead) (l : Lent) (r : Checked) (source_room_of target_room_of entry_room_of : List ℕ) : Type 0 where
  pub result : r ≡ check_listed list l
  pub source : source_room_of ≡ source_room_listed list l
  pub target : target_room_of ≡ target_room_listed list l
  pub entries : entry_room_of ≡ entry_room_listed list l
