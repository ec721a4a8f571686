-- Lists on which the definition computes: which are lawful, and which refusal the others have at which line. Assumes nothing.
use Prim.Native.String.{String}
use Prim.Native.Nat.{ℕ, zero, suc, ◌+◌}
use mathlib.Core.Bool.{true, false}
use mathlib.Core.List.{List, [], ◌∷◌, ◌++◌}
use mathlib.Core.Path.{◌≡◌, refl}
use Rattle.event.specs.Answer.{answer, done}
use Rattle.text.specs.Cut.{cut, glue}
use Rattle.text.specs.Line.{said_in}
use Rattle.text.specs.Number.{all_digits, value_on, digits_on, number_of, dec, decimal}
use Rattle.text.specs.Word.{bytes, same_bytes}
use Rattle.frame.specs.Reading.{head_fault, lines_fault, text_fault}
use Rattle.registers.specs.Reg.{reg_rest, group_rest, after_word, reg_of, reg_line}
use Rattle.registers.specs.Reading.{is_grouped, regs_of, marked, marks_of, refused, read_as, list_of}

-- a text with the locations that it lists; and one with its refusal
abbrev Lists : String → List ℕ → Type 0
Lists text ps = list_of 1 (bytes text) ≡ read_as (marks_of ps)

abbrev Refuses : String → ℕ → ℕ → Type 0
Refuses text number place = list_of 1 (bytes text) ≡ refused (answer number 4 place)

-- "A header alone is lawful"; locations ascend strictly, and 0 and 255 are locations
pub lawful :
    Lists "regs\t1\n" []
    × Lists "regs\t1\nreg\t0\n" (0 ∷ [])
    × Lists "regs\t1\nreg\t7\nreg\t8\nreg\t255\n" (7 ∷ 8 ∷ 255 ∷ [])
unfolding list_of text_fault head_fault lines_fault said_in is_grouped regs_of reg_of after_word group_rest reg_rest marked number_of digits_on value_on all_digits cut same_bytes
lawful = (refl, refl, refl)

-- 2: an empty text, another first line, no final LF, a line that is no register's
pub malformed :
    Refuses "" 2 1
    × Refuses "\n" 2 1
    × Refuses "regs\t1" 2 1
    × Refuses "regs\t3\n" 2 1
    × Refuses "trace\t1\n" 2 1
    × Refuses "regs\t1\nreg\t7" 2 2
    × Refuses "regs\t1\n\n" 2 2
    × Refuses "regs\t1\nreg\t256\n" 2 2
    × Refuses "regs\t1\nreg\t07\n" 2 2
    × Refuses "regs\t1\nreg\t7\t8\n" 2 2
    × Refuses "regs\t1\nreg\n" 2 2
    × Refuses "regs\t1\nregs\t7\n" 2 2
unfolding list_of text_fault head_fault lines_fault said_in is_grouped regs_of reg_of after_word group_rest reg_rest marked number_of digits_on value_on all_digits cut same_bytes
malformed = (refl, refl, refl, refl, refl, refl, refl, refl, refl, refl, refl, refl)

-- 22: a location below the one before, or that one again; the lower of two refused lines is told
pub out_of_order :
    Refuses "regs\t1\nreg\t8\nreg\t7\n" 22 3
    × Refuses "regs\t1\nreg\t8\nreg\t8\n" 22 3
    × Refuses "regs\t1\nreg\t10\nreg\t9\nreg\n" 22 3
    × Refuses "regs\t1\nreg\t10\nreg\nreg\t9\n" 2 3
    × Refuses "regs\t1\nreg\t1\nreg\t2\nreg\t1\n" 22 4
unfolding list_of text_fault head_fault lines_fault said_in is_grouped regs_of reg_of after_word group_rest reg_rest marked number_of digits_on value_on all_digits cut same_bytes
out_of_order = (refl, refl, refl, refl, refl)

-- the text of n lines more, from a location on, that ends with what stands at its end
abbrev rising : ℕ → ℕ → List ℕ → List ℕ
rising zero p end = end
rising (suc n) p end = reg_line false (record { group = 1; location = p }) ++ 10 ∷ rising n (p + 1) end

abbrev listing : ℕ → ℕ → String → List ℕ
listing n p end = bytes "regs\t1\n" ++ rising n p (bytes end)

-- 32 registers are lawful, the 33rd is 22, also where it is out of order, and 2 where it is malformed
pub limit :
    ((list_of 1 (listing 32 100 "")).answer ≡ done)
    × (list_of 1 (listing 33 100 "") ≡ refused (answer 22 4 34))
    × (list_of 1 (listing 32 100 "reg\t100\n") ≡ refused (answer 22 4 34))
    × (list_of 1 (listing 32 100 "reg\t256\n") ≡ refused (answer 2 4 34))
    × (list_of 1 (listing 32 100 "reg\t255") ≡ refused (answer 2 4 34))
unfolding list_of text_fault head_fault lines_fault said_in is_grouped regs_of reg_of after_word group_rest reg_rest reg_line marked number_of digits_on value_on all_digits cut glue decimal dec same_bytes
limit = (refl, refl, refl, refl, refl)

-- a list of form 2: each group has its own lines, both may name one location, and a group that no line names lists nothing
abbrev ListsFor : ℕ → String → List ℕ → Type 0
ListsFor g text ps = list_of g (bytes text) ≡ read_as (marks_of ps)

pub grouped :
    ListsFor 1 "regs\t2\n" []
    × ListsFor 1 "regs\t2\nreg\t1\t7\nreg\t1\t9\nreg\t2\t3\nreg\t2\t7\n" (7 ∷ 9 ∷ [])
    × ListsFor 2 "regs\t2\nreg\t1\t7\nreg\t1\t9\nreg\t2\t3\nreg\t2\t7\n" (3 ∷ 7 ∷ [])
    × ListsFor 3 "regs\t2\nreg\t1\t7\nreg\t1\t9\nreg\t2\t3\nreg\t2\t7\n" []
    × ListsFor 2 "regs\t2\nreg\t2\t0\nreg\t2\t255\n" (0 ∷ 255 ∷ [])
    × ListsFor 2 "regs\t1\nreg\t7\n" []
unfolding list_of text_fault head_fault lines_fault said_in is_grouped regs_of reg_of after_word group_rest reg_rest marked number_of digits_on value_on all_digits cut same_bytes
grouped = (refl, refl, refl, refl, refl, refl)

-- 2: a group that is neither 1 nor 2, or a line of the other form; 22: by group, then location; either refuses both groups
abbrev RefusesBoth : String → ℕ → ℕ → Type 0
RefusesBoth text number place = (list_of 1 (bytes text) ≡ refused (answer number 4 place)) × (list_of 2 (bytes text) ≡ refused (answer number 4 place))

pub grouped_refused :
    RefusesBoth "regs\t2\nreg\t0\t7\n" 2 2
    × RefusesBoth "regs\t2\nreg\t3\t7\n" 2 2
    × RefusesBoth "regs\t2\nreg\t7\n" 2 2
    × RefusesBoth "regs\t1\nreg\t1\t7\n" 2 2
    × RefusesBoth "regs\t2\nreg\t1\t256\n" 2 2
    × RefusesBoth "regs\t2\nreg\t1\t7\nreg\t1\t7\n" 22 3
    × RefusesBoth "regs\t2\nreg\t2\t3\nreg\t1\t7\n" 22 3
    × RefusesBoth "regs\t2\nreg\t1\t7\nreg\t2\t9\nreg\t2\t8\n" 22 4
unfolding list_of text_fault head_fault lines_fault said_in is_grouped regs_of reg_of after_word group_rest reg_rest marked number_of digits_on value_on all_digits cut same_bytes
grouped_refused = ((refl, refl), (refl, refl), (refl, refl), (refl, refl), (refl, refl), (refl, refl), (refl, refl), (refl, refl))

-- n lines more of a group, from a location on
abbrev more : ℕ → ℕ → ℕ → List ℕ → List ℕ
more zero g p end = end
more (suc n) g p end = reg_line true (record { group = g; location = p }) ++ 10 ∷ more n g (p + 1) end

-- 32 of each group are lawful; the 33rd of either is 22
pub grouped_limit :
    ((list_of 1 (bytes "regs\t2\n" ++ more 32 1 0 (more 32 2 0 []))).answer ≡ done)
    × (list_of 2 (bytes "regs\t2\n" ++ more 33 1 0 []) ≡ refused (answer 22 4 34))
    × (list_of 1 (bytes "regs\t2\n" ++ more 32 1 0 (more 33 2 0 [])) ≡ refused (answer 22 4 66))
unfolding list_of text_fault head_fault lines_fault said_in is_grouped regs_of reg_of after_word group_rest reg_rest reg_line marked number_of digits_on value_on all_digits cut glue decimal dec same_bytes
grouped_limit = (refl, refl, refl)
