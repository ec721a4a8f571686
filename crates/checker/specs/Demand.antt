-- Demand 3 on texts, and document 02, C-16: what accepting three texts under a list of registers has to mean, and what every run from the source keeps.
-- Assumes nothing.
use Rattle.std.specs.Prelude.{◌≡◌, ◌↔◌, ◌⊎◌, Bool, false, List, [], ◌∷◌, map, ℕ, T, length, get_or}
use Rattle.event.specs.Answer.{done}
use Rattle.laws.specs.Has.{has}
use Rattle.memory.specs.Listed.{listed, none_listed}
use Rattle.event.specs.declared.Event.{Event}
use Rattle.trace.specs.Reading.{events_of}
use Rattle.matching.specs.Reading.{entries_of}
use Rattle.registers.specs.Reading.{list_of}
use Rattle.registers.specs.Reading.{ListRead}
use Rattle.rules.specs.View.{View, view, view_in}
use Rattle.rules.specs.Moves.{Run, By}
use Rattle.rules.specs.Run.{Traced, event_of, number, changes, Realises}
use Rattle.rules.specs.Verdict.{start_answer_in, count_answer, entry_answer}
use Rattle.rules.specs.Demand.{right_in, final}
use Rattle.checker.specs.Check.{Lent, source_read_in, target_read_in, reading_answer_in, check_in, source_read, target_read, check_of, check_listed}

-- The events of the two traces, and the entries.
abbrev pub source_of : Lent → List Event
source_of l = events_of l.source

abbrev pub target_of : Lent → List Event
target_of l = events_of l.target

abbrev pub entries_for : Lent → List ℕ
entries_for l = entries_of l.matching

-- "A matching that passes answers 1 to 9 and 17": no reading refuses, be it by 20 or 21 (document 02, C-15), and neither do 7, 8 and 9.
pub record AdmittedIn (regs : List Bool) (l : Lent) : Type 0 where
  pub reading : (reading_answer_in regs l).number ≡ 0
  pub start : start_answer_in regs 0 (source_read_in regs l).memory.cells (target_read_in regs l).memory.cells ≡ done
  pub count : count_answer (source_of l) (entries_for l) ≡ done
  pub entries : entry_answer (length (target_of l)) 1 [] (entries_for l) ≡ done

-- The same by what the check answers; 22 is a list's.
abbrev pub premise : List ℕ
premise = 1 ∷ 2 ∷ 3 ∷ 4 ∷ 5 ∷ 6 ∷ 7 ∷ 8 ∷ 9 ∷ 17 ∷ 20 ∷ 21 ∷ 22 ∷ []

abbrev pub AdmittedExactlyIn : List Bool → Type 0
AdmittedExactlyIn regs = (l : Lent) → AdmittedIn regs l ↔ (has (check_in regs l).answer.number premise ≡ false)

-- "is accepted exactly when some finite run of allowed removals and swaps, then allowed insertions and swaps, turns the source into the target (load
-- marks apart), keeps what it keeps, each at its target number, and removes what it calls gone". The starting values of listed locations are "set
-- apart": 7 skips them.
abbrev pub AcceptedBy : List Bool → (Event → View) → Type 0
AcceptedBy regs look =
    (l : Lent) → AdmittedIn regs l → ((check_in regs l).answer ≡ done) ↔ Realises look (source_of l) (target_of l) (entries_for l)

abbrev pub AcceptedExactlyIn : List Bool → Type 0
AcceptedExactlyIn regs = AcceptedBy regs (view_in regs)

-- "In every trace along such a run each load returns the latest value, and each location ends with the value it had": of every run from the source,
-- whatever it realises. A load of a listed location returns what it returns; every location, listed or not, ends so.
abbrev pub ValuesBy : List Bool → (Event → View) → Type 0
ValuesBy regs look =
    (l : Lent) → AdmittedIn regs l → (u : List Traced) (r : Run (changes look) (number 1 (source_of l)) u)
    → (x : List Traced) → By (changes look) x r.1 ⊎ By (changes look) x r.2
    → T (right_in regs (source_read_in regs l).memory (map event_of x))
    × (final (source_read_in regs l).memory (map event_of x) ≡ final (source_read_in regs l).memory (source_of l))

abbrev pub ValuesAlongIn : List Bool → Type 0
ValuesAlongIn regs = ValuesBy regs (view_in regs)

-- An accepted target ends with the source's last values, at every location that is not listed.
abbrev pub SameMemoryIn : List Bool → Type 0
SameMemoryIn regs =
    (l : Lent) → AdmittedIn regs l → (check_in regs l).answer ≡ done → (x : ℕ) → listed regs x ≡ false
    → get_or (final (target_read_in regs l).memory (target_of l)).cells x 0 ≡ get_or (final (source_read_in regs l).memory (source_of l)).cells x 0

-- The same without a list, which lists none; the target then ends with the source's last memory.
abbrev pub Admitted : Lent → Type 0
Admitted = AdmittedIn none_listed

abbrev pub AdmittedExactly : Type 0
AdmittedExactly = AdmittedExactlyIn none_listed

abbrev pub AcceptedExactly : Type 0
AcceptedExactly = AcceptedBy none_listed view

abbrev pub ValuesAlong : Type 0
ValuesAlong = ValuesBy none_listed view

abbrev pub SameMemory : Type 0
SameMemory =
    (l : Lent) → Admitted l → (check_of l).answer ≡ done → final (target_read l).memory (target_of l) ≡ final (source_read l).memory (source_of l)

-- With what was read of a list: it is read without refusal too.
pub record AdmittedListed (list : ListRead) (l : Lent) : Type 0 where
  pub reading : list.answer.number ≡ 0
  pub others : AdmittedIn list.listed l

abbrev pub AdmittedListedExactly : Type 0
AdmittedListedExactly = (g : ℕ) (text : List ℕ) (l : Lent) → AdmittedListed (list_of g text) l ↔ (has (check_listed (list_of g text) l).answer.number premise ≡ false)

-- Such a check is the one under what the list lists, so what is said of that is said of it.
abbrev pub CheckedUnder : Type 0
CheckedUnder = (list : ListRead) (l : Lent) → AdmittedListed list l → check_listed list l ≡ check_in list.listed l

abbrev pub AcceptedListedExactly : Type 0
AcceptedListedExactly =
    (list : ListRead) (l : Lent) → AdmittedListed list l
    → ((check_listed list l).answer ≡ done) ↔ Realises (view_in list.listed) (source_of l) (target_of l) (entries_for l)
