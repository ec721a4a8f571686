-- Which answers a matching's reading gives: 1, 2, 3 and 17, side 3. Assumes nothing.
use Prim.Native.Nat.{ℕ}
use mathlib.Core.Bool.{true}
use mathlib.Core.List.{List, [], ◌∷◌}
use mathlib.Core.Logic.{◌⊎◌, inl, inr}
use mathlib.Core.Path.{◌≡◌, refl}
use native.Mathlib.Omega.{arith}
use lib.Dec.{eqb, leb}
use lib.ListN.{length}
use Rattle.std.specs.Prelude.{Option, Some, None}
use Rattle.laws.proofs.Cases.{by_cond}
use Rattle.laws.specs.Has.{has}
use Rattle.event.specs.Answer.{answer, done, first, InTable}
use Rattle.event.specs.declared.Answer.{Answer}
use Rattle.event.proofs.Answers.{Among, Given, none, one, among_first, among_more, given_among, given_in, in_first}
use Rattle.text.specs.Line.{split, body}
use Rattle.frame.specs.Reading.{head_fault, lines_fault, text_fault}
use Rattle.frame.proofs.Answers.{lines_given, head_among, head_in}
use Rattle.event.specs.Limit.{event_limit}
use Rattle.matching.specs.Entry.{header, entry_of}
use Rattle.matching.specs.Reading.{MatchingRead, matching_limit, entry_fault, matching_layout, survey_of, read_of}

-- the numbers of its refusals
abbrev pub matching_faults : List ℕ
matching_faults = 1 ∷ 2 ∷ 3 ∷ 17 ∷ []

line_fault_lem : (n : ℕ) (r : Option ℕ) → (entry_fault n r ≡ 0) ⊎ (has (entry_fault n r) (2 ∷ 3 ∷ []) ≡ true)
line_fault_lem n None = inr refl
line_fault_lem n (Some e) = by_cond (λ (f : ℕ). (f ≡ 0) ⊎ (has f (2 ∷ 3 ∷ []) ≡ true)) (leb event_limit n) (inr refl) (inl refl)

module _ (t room : List ℕ) where
  abbrev lines : Answer
  lines = lines_fault matching_layout 3 2 0 (body (split t))

  lines_are : Given (2 ∷ 3 ∷ []) 3 lines
  lines_are = lines_given matching_layout (2 ∷ 3 ∷ []) 3 refl (λ n l. line_fault_lem n (entry_of l)) 2 0 (body (split t)) (omega arith)

  -- what holds of its first refusal, and of 17, holds of what it answers
  by_fault : (P : Answer → Type 0) → P done → P (first (head_fault 3 matching_limit header t) lines) → ((n : ℕ) → P (answer 17 3 n)) → P (read_of t room).answer
  unfolding read_of survey_of text_fault
  by_fault P z h f =
      let s = by_cond (λ (r : MatchingRead). P r.answer) (eqb (first (head_fault 3 matching_limit header t) lines).number 0) z h in
      by_cond (λ (r : MatchingRead). P r.answer) (leb (survey_of t).entries (length room)) s (f _)

  pub read_among : Among matching_faults (read_of t room).answer
  read_among =
      by_fault (Among matching_faults) none
      (among_first _ (head_fault 3 matching_limit header t) lines (among_more _ _ refl (head_among 3 matching_limit header t))
      (among_more _ _ refl (given_among _ 3 lines_are)))
      (λ n. one refl)

  -- every answer of a matching's reading is a row of the table
  pub read_in_lem : InTable (read_of t room).answer
  read_in_lem =
      by_fault InTable refl (in_first (head_fault 3 matching_limit header t) lines (head_in 3 matching_limit header t refl) (given_in _ 3 refl lines_are)) (λ n. refl)
