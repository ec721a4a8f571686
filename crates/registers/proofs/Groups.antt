-- Groups: two lists that agree on a group's lines are the same to it, the answer is the same to every group, and a list of form 1 is group 1's. Assumes
-- nothing.
use Prim.Native.Nat.{ℕ}
use mathlib.Core.Path.{◌≡◌, refl, sym, ◌∙◌, ap}
use mathlib.Core.Bool.{false}
use mathlib.Core.List.{List, [], ◌∷◌, ◌++◌, map}
use native.Mathlib.Omega.{arith}
use lib.Dec.{eqb}
use borrow.Author.Tests.{ne_eqb}
use Rattle.laws.proofs.Cases.{cases, either}
use Rattle.text.specs.Line.{split, body, said_in}
use Rattle.frame.specs.Reading.{text_fault}
use Rattle.frame.proofs.Settled.{settled}
use Rattle.std.specs.Prelude.{Option, Some, None}
use Rattle.registers.specs.Reg.{reg_of}
use Rattle.registers.specs.Reading.{ListRead, is_grouped, regs_layout, regs_on, regs_in, regs_of, of_group, group_of, marks_of, refused, read_as, list_of}
use Rattle.registers.specs.Groups.{Agree}
use Rattle.registers.specs.declared.reg.Register.{Register}
use Rattle.registers.proofs.Prints.{reg_back}

-- what is read without refusal has no fault, and lists its own locations
pub list_done : (g : ℕ) (t : List ℕ) → (list_of g t).answer.number ≡ 0
    → ((text_fault (regs_layout (is_grouped t)) 4 t).number ≡ 0) × (list_of g t ≡ read_as (marks_of (group_of g t)))
unfolding list_of
list_done g t h =
    settled refused (λ (r : ListRead). r.answer.number) (λ a. refl) (text_fault (regs_layout (is_grouped t)) 4 t) (read_as (marks_of (group_of g t))) h

-- "22 as before, for either group's lines": the answer is that of the whole text, whichever group it is read for
pub one_answer : (g h : ℕ) (t : List ℕ) → (list_of g t).answer ≡ (list_of h t).answer
unfolding list_of
one_answer g h t = cases (either (eqb (text_fault (regs_layout (is_grouped t)) 4 t).number 0)) (λ e. rw e) (λ e. rw e)

-- Document 02, C-20: lists that agree on a group's lines are read as the same for it. All that a call with a list says goes by what was read of the list.
pub agreed : (g : ℕ) (a b : List ℕ) → Agree g a b → list_of g a ≡ list_of g b
agreed g a b s =
    (list_done g a s.first).1 ∙ (ap (λ (ps : List ℕ). read_as (marks_of ps)) s.lines ∙ sym (list_done g b s.second).1)

-- "Form 1 lists are group 1's": each register of one is of group 1
abbrev location : Register → ℕ
location r = r.location

-- registers that are all of group 1
record AllFirst (rs : List Register) : Type 0 where
  first : of_group 1 rs ≡ map location rs
  others : (g : ℕ) → (g ≡ 1 → ⊥) → of_group g rs ≡ []

first_line : (l : List ℕ) (r : Option Register) → reg_of false l ≡ r → (rs : List Register) → AllFirst rs → AllFirst (regs_on r ++ rs)
first_line l None h rs a = a
first_line l (Some r) h rs a =
    let n = (reg_back false l r h).1 in
    let i : r.group ≡ 1 = omega (arith, n.one, n.group) in
    record { first = rw (i, a.first); others = λ g k. rw (i, ne_eqb 1 g (λ e. k (sym e)), a.others g k) }

first_lines : (ls : List (List ℕ)) → AllFirst (regs_in false ls)
unfolding said_in
first_lines [] = record { first = refl; others = λ g k. refl }
first_lines (l ∷ []) = record { first = refl; others = λ g k. refl }
first_lines (l ∷ m ∷ ls) = first_line l (reg_of false l) refl (regs_in false (m ∷ ls)) (first_lines (m ∷ ls))

pub form_1 : (t : List ℕ) → is_grouped t ≡ false → group_of 1 t ≡ map location (regs_of t)
unfolding regs_of
form_1 t h = rw h (first_lines (body (split t))).first

pub form_1_others : (t : List ℕ) → is_grouped t ≡ false → (g : ℕ) → (g ≡ 1 → ⊥) → group_of g t ≡ []
unfolding regs_of
form_1_others t h = rw h (first_lines (body (split t))).others
