-- Which answers a list's reading gives, 1, 2 and 22 with side 4; in which order; and that a refusal lists nothing. Assumes nothing.
use Prim.Native.Nat.{ℕ, ◌≤◌, ◌<◌}
use mathlib.Core.Bool.{Bool, true, false, ◌||◌}
use mathlib.Core.List.{List, [], ◌∷◌}
use mathlib.Core.Logic.{◌⊎◌, inl, inr}
use mathlib.Core.Path.{◌≡◌, refl}
use native.Mathlib.Omega.{arith}
use lib.Dec.{eqb, leb, ltb}
use lib.ListN.{length}
use borrow.Author.Tests.{lt-ltb, le-ltb}
use Rattle.memory.specs.Listed.{none_listed}
use Rattle.laws.proofs.Cases.{by_cond, cases, either}
use Rattle.laws.specs.Has.{has}
use Rattle.event.specs.Answer.{answer, done, first, InTable}
use Rattle.event.specs.declared.Answer.{Answer}
use Rattle.event.proofs.Answers.{Among, Given, none, among_first, among_more, given_among, given_in, in_first}
use Rattle.text.specs.Line.{split, body}
use Rattle.frame.specs.Reading.{headed, head_fault, lines_fault, text_fault, tried}
use Rattle.frame.proofs.Answers.{lines_given, head_among, head_in}
use Rattle.std.specs.Prelude.{Option, Some, None}
use Rattle.registers.specs.Reg.{header, reg_of}
use Rattle.registers.specs.declared.reg.Register.{Register}
use Rattle.registers.specs.Reading.{ListRead, SoFar, nothing, list_limit, reg_limit, rank, before, regs_fault}
use Rattle.registers.specs.Reading.{is_grouped, regs_layout, regs_of, refused, list_of}
use Rattle.registers.specs.Lines.{lines_read}

-- the numbers of its refusals
abbrev pub list_faults : List ℕ
list_faults = 1 ∷ 2 ∷ 22 ∷ []

line_fault_lem : (s : SoFar) (r : Option Register) → (regs_fault s r ≡ 0) ⊎ (has (regs_fault s r) (2 ∷ 22 ∷ []) ≡ true)
line_fault_lem s None = inr refl
line_fault_lem s (Some r) =
    by_cond (λ (f : ℕ). (f ≡ 0) ⊎ (has f (2 ∷ 22 ∷ []) ≡ true)) (ltb (rank r) s.low || leb reg_limit (before s r)) (inr refl) (inl refl)

module _ (g : ℕ) (t : List ℕ) where
  abbrev grouped : Bool
  grouped = is_grouped t

  abbrev lines : Answer
  lines = lines_fault (regs_layout grouped) 4 2 nothing (body (split t))

  lines_are : Given (2 ∷ 22 ∷ []) 4 lines
  lines_are = lines_given (regs_layout grouped) (2 ∷ 22 ∷ []) 4 refl (λ s l. line_fault_lem s (reg_of grouped l)) 2 nothing (body (split t)) (omega arith)

  -- what holds of no refusal and of its first refusal holds of what it answers
  by_fault : (P : Answer → Type 0) → P done → P (first (head_fault 4 list_limit (header grouped) t) lines) → P (list_of g t).answer
  unfolding list_of text_fault
  by_fault P z h = by_cond (λ (r : ListRead). P r.answer) (eqb (first (head_fault 4 list_limit (header grouped) t) lines).number 0) z h

  pub read_among : Among list_faults (list_of g t).answer
  read_among =
      by_fault (Among list_faults) none
      (among_first _ (head_fault 4 list_limit (header grouped) t) lines (among_more _ _ refl (head_among 4 list_limit (header grouped) t))
      (among_more _ _ refl (given_among _ 4 lines_are)))

  -- every answer of a list's reading is a row of the table
  pub read_in_lem : InTable (list_of g t).answer
  read_in_lem = by_fault InTable refl (in_first (head_fault 4 list_limit (header grouped) t) lines (head_in 4 list_limit (header grouped) t refl) (given_in _ 4 refl lines_are))

  -- "answering 1, then line by line 2 and 22": 1, whatever the lines are; then line 1; then line by line
  pub over_limit : list_limit < length t → list_of g t ≡ refused (answer 1 4 0)
  unfolding list_of text_fault head_fault
  over_limit h = rw (lt-ltb list_limit (length t) h)

  pub bad_head : length t ≤ list_limit → headed (header grouped) (split t) ≡ false → list_of g t ≡ refused (answer 2 4 1)
  unfolding list_of text_fault head_fault
  bad_head h k = rw (le-ltb list_limit (length t) h, k)

  pub then_lines : length t ≤ list_limit → headed (header grouped) (split t) ≡ true → list_of g t ≡ lines_read grouped g 0 nothing none_listed (body (split t))
  unfolding list_of text_fault head_fault regs_of tried
  then_lines h k = rw (le-ltb list_limit (length t) h, k)

  -- a refusal lists nothing
  pub refused_lists_none : ((list_of g t).answer.number ≡ 0 → ⊥) → (list_of g t).listed ≡ none_listed
  unfolding list_of
  refused_lists_none h =
      cases (either (eqb (text_fault (regs_layout grouped) 4 t).number 0)) (λ e. absurd (h (rw e))) (λ e. rw e)
