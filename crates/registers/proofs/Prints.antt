-- The layout theorem of a list's lines, over the form: a line is read as a register exactly when it is the print of that register, and the register is one
-- that a line can name. The fields of a line are cut apart and glued together by the same byte. Assumes nothing.
use Prim.Native.Nat.{ℕ, ◌≤◌}
use mathlib.Core.Path.{◌≡◌, refl, sym, ◌∙◌}
use mathlib.Core.Bool.{Bool, true, false, cond}
use mathlib.Core.List.{List, [], ◌∷◌}
use native.Mathlib.Omega.{arith}
use lib.Dec.{eqb}
use borrow.Author.Tests.{eqb-false, ne_eqb}
use Rattle.std.specs.Prelude.{Option, Some, None}
use Rattle.laws.proofs.Cases.{cases, either}
use Rattle.laws.proofs.Lists.{Free}
use Rattle.event.specs.Limit.{last_place}
use Rattle.text.specs.Field.{fields, join, on_end, on_field}
use Rattle.text.specs.Number.{decimal, number_of, on_number}
use Rattle.text.specs.Word.{same_bytes}
use Rattle.text.proofs.Parts.{cut_glue, glue_cut}
use Rattle.text.proofs.Round.{round, read_back, decimal_no_tab}
use Rattle.text.proofs.Words.{same_eq}
use Rattle.registers.specs.Reg.{reg_word, reg_rest, group_rest, after_word, reg_of, reg_line}
use Rattle.registers.specs.Text.{Named}
use Rattle.registers.specs.declared.reg.Register.{Register}

word_free : Free 9 reg_word
word_free = ((λ e. omega arith), ((λ e. omega arith), ((λ e. omega arith), tt)))

-- Document 02, C-16: "lines `reg`, location", and C-20: "lines `reg`, group (1 or 2), location". A register's line is read as the register.
pub reg_read : (grouped : Bool) (r : Register) → Named grouped r → reg_of grouped (reg_line grouped r) ≡ Some r
unfolding reg_of reg_line after_word group_rest reg_rest same_bytes
reg_read true r n =
    rw (
      cut_glue 9 reg_word (decimal r.group ∷ decimal r.location ∷ []) (word_free, (decimal_no_tab _, (decimal_no_tab _, tt))),
      round 2 r.group n.group,
      ne_eqb r.group 0 (λ z. omega (arith, n.one)),
      round last_place r.location n.location,
    )
reg_read false r n =
    let g : r.group ≡ 1 = omega (arith, n.one, n.group) in
    rw (cut_glue 9 reg_word (decimal r.location ∷ []) (word_free, (decimal_no_tab _, tt)), round last_place r.location n.location, g)

-- what a register that was read says of the fields
abbrev Says : Bool → List (List ℕ) → Option Register → Type 0
Says grouped fs (Some r) = (join fs ≡ reg_line grouped r) × Named grouped r
Says grouped fs None = Unit {0}

-- what comes before the location, by the form
abbrev start : Bool → ℕ → List (List ℕ) → List (List ℕ)
start true g fs = reg_word ∷ decimal g ∷ fs
start false g fs = reg_word ∷ fs

abbrev InForm : Bool → ℕ → Type 0
InForm grouped g = (p : ℕ) → p ≤ last_place → Named grouped (record { group = g; location = p })

number_says : (grouped : Bool) (g : ℕ) → InForm grouped g → (f : List ℕ) (fs : List (List ℕ)) (r : Option ℕ) → number_of last_place f ≡ r
    → Says grouped (start grouped g (f ∷ fs)) (on_number None r (λ p. on_end None fs (Some (record { group = g; location = p }))))
unfolding reg_line
number_says grouped g n f fs None e = tt
number_says true g n f [] (Some p) e = let r = read_back last_place f p e in (rw r.0, n p r.1)
number_says false g n f [] (Some p) e = let r = read_back last_place f p e in (rw r.0, n p r.1)
number_says grouped g n f (h ∷ fs) (Some p) e = tt

rest_says : (grouped : Bool) (g : ℕ) → InForm grouped g → (fs : List (List ℕ)) → Says grouped (start grouped g fs) (reg_rest g fs)
unfolding reg_rest
rest_says grouped g n [] = tt
rest_says grouped g n (f ∷ fs) = number_says grouped g n f fs (number_of last_place f) refl

group_says : (f : List ℕ) (fs : List (List ℕ)) (r : Option ℕ) → number_of 2 f ≡ r
    → Says true (reg_word ∷ f ∷ fs) (on_number None r (λ g. cond (eqb g 0) None (reg_rest g fs)))
group_says f fs None e = tt
group_says f fs (Some g) e =
    let r = read_back 2 f g e in
    cases (either (eqb g 0)) (λ z. rw z tt)
    (λ z.
    let some = eqb-false g 0 z in
    rw (z, r.0) (rest_says true g (λ p h. record { one = omega (arith, some); group = r.1; location = h }) fs))

word_says : (grouped : Bool) (fs : List (List ℕ)) → Says grouped (reg_word ∷ fs) (after_word grouped fs)
unfolding after_word group_rest
word_says true [] = tt
word_says true (f ∷ fs) = group_says f fs (number_of 2 f) refl
word_says false fs = rest_says false 1 (λ p h. record { one = omega arith; group = omega arith; location = h }) fs

fields_say : (grouped : Bool) (fs : List (List ℕ))
    → Says grouped fs (on_field None fs (λ word rest. cond (same_bytes word reg_word) (after_word grouped rest) None))
fields_say grouped [] = tt
fields_say grouped (w ∷ fs) = cases (either (same_bytes w reg_word)) (λ e. rw (e, same_eq w reg_word e) (word_says grouped fs)) (λ e. rw e tt)

-- A line that is read as a register is the register's line.
pub reg_back : (grouped : Bool) (l : List ℕ) (r : Register) → reg_of grouped l ≡ Some r → (l ≡ reg_line grouped r) × Named grouped r
unfolding reg_of
reg_back grouped l r h =
    let s : Says grouped (fields l) (Some r) = rw h at (fields_say grouped (fields l)) in
    (sym (glue_cut 9 l) ∙ s.0, s.1)
