-- What a shortening answers is a row of the table. Assumes nothing.
use Prim.Native.Nat.{ℕ, ◌*◌}
use mathlib.Core.Path.{◌≡◌, refl, ◌∙◌, ap, subst}
use mathlib.Core.Bool.{Bool, true, false, cond}
use mathlib.Core.List.{List}
use lib.Dec.{eqb, leb}
use lib.ListN.{length, replicate, length-replicate}
use borrow.Author.Tests.{eqb-false, ne_eqb}
use Rattle.laws.proofs.Cases.{cases, either}
use Rattle.event.specs.Answer.{answer, done, InTable}
use Rattle.event.specs.Limit.{event_limit}
use Rattle.registers.specs.Reading.{list_of}
use Rattle.registers.proofs.Answers.{read_in_lem as list_in}
use Rattle.trace.specs.Reading.{fault_in, survey_in, read_in, room_for}
use Rattle.trace.specs.Reading.{TraceRead}
use Rattle.trace.proofs.Answers.{source_in}
use Rattle.shorten.specs.Text.{both_fault, short_text, short_matching, short_fault, shorten_in, shorten_listed}
use Rattle.shorten.proofs.Texts.{survey_room}

-- 17 with side 2 or 3, or none
both_in : (t m out matchingOut : List ℕ) → InTable (both_fault t m out matchingOut)
both_in t m out matchingOut = go (leb (length t) (length out)) (leb (length m) (length matchingOut))
  where
    go : (c d : Bool) → InTable (cond (eqb (cond c done (answer 17 2 (length t))).number 0)
        (cond d done (answer 17 3 (length m))) (cond c done (answer 17 2 (length t))))
    go true true = refl
    go true false = refl
    go false d = refl

module _ (regs : List Bool) (t out matchingOut : List ℕ) where
  -- the reading's own, as a room that holds the most has it
  abbrev room : List ℕ
  room = replicate (event_limit * 6) 0

  as_survey : read_in regs 1 t room ≡ survey_in regs 1 t
  unfolding read_in
  as_survey = ap (λ (n : ℕ). room_for 1 n (survey_in regs 1 t)) (length-replicate {A = ℕ} (event_limit * 6) 0) ∙ survey_room regs t

  stops : ((fault_in regs 1 t).number ≡ 0 → ⊥) → (survey_in regs 1 t).answer ≡ fault_in regs 1 t
  unfolding survey_in
  stops n = rw (ne_eqb (fault_in regs 1 t).number 0 n)

  fault_in_lem : InTable (short_fault regs t out matchingOut)
  unfolding short_fault
  fault_in_lem =
      cases (either (eqb (fault_in regs 1 t).number 0)) (λ e. rw e (both_in (short_text regs t) (short_matching regs t) out matchingOut))
      (λ e. rw e (subst InTable (ap (λ (r : TraceRead). r.answer) as_survey ∙ stops (eqb-false _ _ e)) (source_in regs t room)))

  pub shorten_in_lem : InTable (shorten_in regs t out matchingOut).answer
  unfolding shorten_in
  shorten_in_lem = cases (either (eqb (short_fault regs t out matchingOut).number 0)) (λ e. rw e refl) (λ e. rw e fault_in_lem)

pub shorten_listed_in : (g : ℕ) (list t out matchingOut : List ℕ) → InTable (shorten_listed (list_of g list) t out matchingOut).answer
unfolding shorten_listed
shorten_listed_in g list t out matchingOut =
    cases (either (eqb (list_of g list).answer.number 0)) (λ e. rw e (shorten_in_lem (list_of g list).listed t out matchingOut)) (λ e. rw e (list_in g list))
