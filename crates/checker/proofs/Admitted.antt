-- What a check answers: a row of the table, and, where it is none of 1 to 9 and 17, of texts that were read and a matching that 7, 8 and 9 let pass.
-- A refusal of any of these tests would be the answer itself. Assumes nothing.
use Prim.Native.Nat.{ℕ}
use mathlib.Core.Bool.{Bool, true, false, false≢true}
use mathlib.Core.List.{List, [], ◌∷◌}
use mathlib.Core.Path.{◌≡◌, refl, sym, ◌∙◌}
use native.Mathlib.Omega.{arith}
use borrow.Author.Tests.{eqb-true, eqb-false, ne_eqb}
use lib.Dec.{eqb}
use lib.ListN.{length}
use Rattle.laws.proofs.Cases.{cases, either}
use Rattle.laws.proofs.Lists.{every}
use Rattle.laws.specs.Has.{has}
use Rattle.memory.specs.Listed.{none_listed}
use Rattle.event.specs.Answer.{done, first, InTable}
use Rattle.event.specs.declared.Answer.{Answer}
use Rattle.event.proofs.Answers.{Among, among_first, among_more, among_done, among_has, among_not, given_among, in_first}
use Rattle.laws.proofs.Has.{has_every}
use Rattle.registers.specs.Reading.{list_of}
use Rattle.registers.specs.Reading.{ListRead}
use Rattle.registers.proofs.Answers.{list_faults, read_among as list_among, read_in_lem as list_in}
use Rattle.trace.proofs.Answers.{trace_faults, source_in, target_in}
use Rattle.trace.proofs.Answers.{read_among as trace_among}
use Rattle.matching.proofs.Answers.{read_in_lem}
use Rattle.matching.proofs.Answers.{read_among as matching_among}
use Rattle.rules.specs.View.{view_in}
use Rattle.rules.specs.Verdict.{start_answer_in, count_answer, entry_answer, source_answer, target_answer, verdict_in}
use Rattle.rules.proofs.Answers.{start_among, count_among, entries_given, source_given, target_given, listed_verdict_in}
use Rattle.checker.specs.Check.{Lent, source_read_in, target_read_in, entries_read, reading_answer_in, verdict_for, check_in, check_listed}
use Rattle.checker.specs.Demand.{
  source_of,
  target_of,
  entries_for,
  AdmittedIn,
  premise,
  AdmittedExactlyIn,
  AdmittedExactly,
  AdmittedListed,
  AdmittedListedExactly,
  CheckedUnder,
  AcceptedListedExactly,
}
use Rattle.checker.proofs.Answers.{by_list, by_refused}
use Rattle.checker.proofs.Demand3.{accepted_exactly_in, cells, judged, read_all}

-- a test that refuses with a number of the premise would be the answer
passes : (a b : Answer) (ns : List ℕ) → Among ns a → every (λ n. has n premise) ns ≡ true → has (first a b).number premise ≡ false → a.number ≡ 0
passes a b ns h t p =
    cases (either (eqb a.number 0)) (λ e. eqb-true _ _ e)
    (λ e.
    let w : has a.number premise ≡ false = rw e at p in
    absurd (false≢true (sym w ∙ has_every (λ n. has n premise) ns t a.number (among_has ns h (eqb-false _ _ e)))))

module _ (regs : List Bool) (l : Lent) where
  -- ---- the readings

  readings : Among trace_faults (reading_answer_in regs l)
  unfolding reading_answer_in
  readings =
      among_first _ (source_read_in regs l).answer (first (target_read_in regs l).answer (entries_read l).answer) (trace_among regs 1 l.source l.source_room_of)
      (among_first _ (target_read_in regs l).answer (entries_read l).answer (trace_among regs 2 l.target l.target_room_of)
      (among_more _ _ refl (matching_among l.matching l.entry_room_of)))

  refused_as : ((reading_answer_in regs l).number ≡ 0 → ⊥) → (check_in regs l).answer ≡ reading_answer_in regs l
  unfolding check_in
  refused_as h = rw (ne_eqb _ _ h)

  -- ---- the tests of the verdict

  abbrev starts : Answer
  starts = start_answer_in regs 0 (source_read_in regs l).memory.cells (target_read_in regs l).memory.cells

  abbrev counts : Answer
  counts = count_answer (source_of l) (entries_for l)

  abbrev names : Answer
  names = entry_answer (length (target_of l)) 1 [] (entries_for l)

  abbrev others : Answer
  others = first (source_answer (view_in regs) (target_of l) 1 [] (source_of l) (entries_for l)) (target_answer (view_in regs) (entries_for l) 1 [] (target_of l))

  by_tests : (reading_answer_in regs l).number ≡ 0 → (check_in regs l).answer ≡ first starts (first counts (first names others))
  unfolding verdict_for verdict_in
  by_tests h = judged regs l h

  others_are : Among (10 ∷ 11 ∷ 12 ∷ 13 ∷ 14 ∷ 15 ∷ 16 ∷ []) others
  others_are =
      among_first _ (source_answer (view_in regs) (target_of l) 1 [] (source_of l) (entries_for l)) (target_answer (view_in regs) (entries_for l) 1 [] (target_of l))
      (among_more _ _ refl (given_among _ 1 (source_given (view_in regs) (target_of l) 1 [] (source_of l) (entries_for l) (omega arith))))
      (among_more _ _ refl (given_among _ 2 (target_given (view_in regs) (entries_for l) 1 [] (target_of l) (omega arith))))

  names_are : Among (9 ∷ []) names
  names_are = given_among _ 3 (entries_given (length (target_of l)) 1 [] (entries_for l) (omega arith))

  -- ---- the check's answer is a row of the table

  pub check_in_lem : InTable (check_in regs l).answer
  unfolding reading_answer_in verdict_for
  check_in_lem =
      cases (either (eqb (reading_answer_in regs l).number 0))
      (λ e. let z = eqb-true _ _ e in
      rw (judged regs l z) (listed_verdict_in regs _ _ (source_of l) (target_of l) (entries_for l)
      (cells regs 1 l.source l.source_room_of (read_all regs l z).0)))
      (λ e. rw (refused_as (eqb-false _ _ e))
      (in_first (source_read_in regs l).answer _ (source_in regs l.source l.source_room_of)
      (in_first (target_read_in regs l).answer _ (target_in regs l.target l.target_room_of) (read_in_lem l.matching l.entry_room_of))))

  -- ---- and says whether the matching is admitted

  pub into : AdmittedIn regs l → has (check_in regs l).answer.number premise ≡ false
  into a =
      rw (by_tests a.reading, a.start, a.count, a.entries) (among_not _ premise refl refl others_are)

  pub back : has (check_in regs l).answer.number premise ≡ false → AdmittedIn regs l
  back p =
      let z : (reading_answer_in regs l).number ≡ 0 =
      cases (either (eqb (reading_answer_in regs l).number 0)) (λ e. eqb-true _ _ e)
      (λ e. passes (reading_answer_in regs l) done trace_faults readings refl
      (rw (e, ← refused_as (eqb-false _ _ e)) p)) in
      let q : has (first starts (first counts (first names others))).number premise ≡ false = rw (by_tests z) at p in
      let s = passes starts (first counts (first names others)) _ (start_among regs 0 _ _) refl q in
      let q₁ : has (first counts (first names others)).number premise ≡ false = rw s at q in
      let c = passes counts (first names others) _ (count_among (view_in regs) (source_of l) (entries_for l)) refl q₁ in
      let q₂ : has (first names others).number premise ≡ false = rw c at q₁ in
      let n = passes names others _ names_are refl q₂ in
      record {
        reading = z;
        start = among_done _ refl (start_among regs 0 _ _) s;
        count = among_done _ refl (count_among (view_in regs) (source_of l) (entries_for l)) c;
        entries = among_done _ refl names_are n;
      }

pub admitted_exactly_in : (regs : List Bool) → AdmittedExactlyIn regs
admitted_exactly_in regs l = (into regs l, back regs l)

pub admitted_exactly : AdmittedExactly
admitted_exactly = admitted_exactly_in none_listed

-- ---- with the text of a list

module _ (g : ℕ) (text : List ℕ) (l : Lent) where
  abbrev list : ListRead
  list = list_of g text

  abbrev marks : List Bool
  marks = list.listed

  pub check_listed_in : InTable (check_listed list l).answer
  check_listed_in =
      cases (either (eqb list.answer.number 0))
      (λ e. rw (by_list list l (eqb-true _ _ e)) (check_in_lem marks l))
      (λ e. rw (by_refused list l (eqb-false _ _ e)) (list_in g text))

  listed_back : has (check_listed list l).answer.number premise ≡ false → AdmittedListed list l
  listed_back p =
      let z : list.answer.number ≡ 0 =
      cases (either (eqb list.answer.number 0)) (λ e. eqb-true _ _ e)
      (λ e. passes list.answer done list_faults (list_among g text) refl (rw e (rw (by_refused list l (eqb-false _ _ e)) at p))) in
      record { reading = z; others = back marks l (rw (by_list list l z) at p) }

pub checked_under : CheckedUnder
checked_under list l a = by_list list l a.reading

pub admitted_listed_exactly : AdmittedListedExactly
admitted_listed_exactly g text l = (λ a. rw (checked_under (list_of g text) l a) (into (list_of g text).listed l a.others), listed_back g text l)

pub accepted_listed_exactly : AcceptedListedExactly
accepted_listed_exactly list l a = rw (checked_under list l a) (accepted_exactly_in list.listed l a.others)
