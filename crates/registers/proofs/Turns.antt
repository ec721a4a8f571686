-- What a reading has come to after line 1, and after each line: a refusal, or what is known after the line. Assumes nothing.
use Prim.Native.Nat.{ℕ, ◌+◌, ◌≤◌}
use mathlib.Core.Path.{◌≡◌, refl, sym, ◌∙◌, ap}
use mathlib.Core.Bool.{Bool, true, false, ◌||◌}
use mathlib.Core.List.{List, ◌∷◌}
use native.Mathlib.Omega.{arith}
use borrow.Author.Tests.{eqb-false}
use lib.Dec.{eqb, leb, ltb}
use lib.ListN.{length, get_or, set}
use Rattle.std.specs.Prelude.{Some}
use Rattle.memory.specs.Listed.{none_listed}
use Rattle.event.specs.Answer.{answer, done}
use Rattle.event.specs.Told.{Refuses}
use Rattle.event.specs.declared.Answer.{Answer}
use Rattle.text.specs.Line.{line_len, line_at, split_from}
use Rattle.text.proofs.Walk.{part, next}
use Rattle.frame.specs.Reading.{head_fault}
use Rattle.frame.proofs.Heads.{head_stops, head_goes, head_length}
use Rattle.frame.proofs.Tries.{Tried, tried_go, tried_stop}
use Rattle.registers.specs.Reg.{header, reg_of}
use Rattle.registers.specs.Reading.{ListRead, SoFar, nothing, list_limit, reg_limit, rank, regs_fault, is_grouped, regs_layout}
use Rattle.registers.specs.Reading.{regs_of, marks_of, group_of, refused, read_as, list_of}
use Rattle.registers.specs.Lines.{marked_for, marking, lines_read}
use Rattle.registers.specs.declared.reg.Register.{Register}
use Rattle.registers.proofs.Marks.{marking_line}
use Rattle.registers.proofs.OneText.{header_length}

-- line 1 refuses, or the lines after it are read
module _ (g : ℕ) (t : List ℕ) where
  pub head_refused : (a : Answer) → Refuses a → a ≡ head_fault 4 list_limit (header (is_grouped t)) t → refused a ≡ list_of g t
  unfolding list_of
  head_refused a r q = head_stops (regs_layout (is_grouped t)) 4 t refused q (eqb-false a.number 0 r) refl (read_as (marks_of (group_of g t)))

  module _ (q : done ≡ head_fault 4 list_limit (header (is_grouped t)) t) where
    pub head_passed : list_of g t ≡ lines_read (is_grouped t) g 0 nothing none_listed (split_from t (line_len t + 1))
    unfolding list_of regs_of
    head_passed = head_goes (regs_layout (is_grouped t)) 4 t refused q refl (marking (is_grouped t) g none_listed)

    pub line_two_in : 2 ≤ line_len t + 1
    line_two_in = omega (arith, head_length (regs_layout (is_grouped t)) 4 t refused q refl, header_length (is_grouped t))

-- a line is refused
pub line_refused : (grouped : Bool) {whole : ListRead} {t : List ℕ} {k at : ℕ} {s : SoFar} {out : List (List ℕ) → ListRead}
    → Tried (regs_layout grouped) refused 4 whole t k s out at → {to : ℕ} → line_at t at ≡ Some to
    → (x : ℕ) → eqb x 0 ≡ false → (regs_layout grouped).fault s (part t at to) ≡ x → (b : Answer) → b ≡ answer x 4 k → Refuses b × (refused b ≡ whole)
line_refused grouped w e x z f b q = (rw q z, tried_stop w refl e q z f)

-- it is a register out of order, or one too many
pub fault_over : (low : ℕ) (counts : List ℕ) (r : Register) (i : ℕ) → i ≡ r.group → (ltb (rank r) low || leb reg_limit (get_or counts i 0)) ≡ true
    → regs_fault (record { low = low; counts = counts }) (Some r) ≡ 22
fault_over low counts r i o f = rw (rw o at f)

-- it is a register, which is not refused, and is marked if it is the group's
module _ (grouped : Bool) (g low n : ℕ) (counts : List ℕ) (marks : List Bool) where
  pub line_read : {whole : ListRead} {t : List ℕ} {at : ℕ}
      → Tried (regs_layout grouped) refused 4 whole t (n + 2) (record { low = low; counts = counts }) (marking grouped g marks) at
      → {to : ℕ} → line_at t at ≡ Some to → (r : Register) → reg_of grouped (part t at to) ≡ Some r → (i : ℕ) → i ≡ r.group
      → (ltb (rank r) low || leb reg_limit (get_or counts i 0)) ≡ false → (marks' : List Bool) → marks' ≡ marked_for g marks r
      → Tried (regs_layout grouped) refused 4 whole t (n + 1 + 2) (record { low = rank r + 1; counts = set counts i (get_or counts i 0 + 1) })
      (marking grouped g marks') (to + 1)
  line_read {t = t} {at = at} w {to} e r q i o f marks' m =
      tried_go w e (omega arith) (rw (q, rw o at f)) (rw (q, o))
      (λ p ls. marking_line grouped g marks (part t at to) p ls r q ∙ ap (λ (b : List Bool). marking grouped g b (p ∷ ls)) (sym m))
