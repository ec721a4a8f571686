-- Document 02, C-16: "A list text (`regs`, `1`, then up to 32 lines `reg`, location, strictly ascending)"; C-20: "Header `regs`, `2`; lines `reg`, group (1 or
-- 2), location", and "Form 1 lists are group 1's". Line 1, and one of the others. Assumes nothing.
use Rattle.std.specs.Prelude.{ℕ, Bool, cond, List, [], ◌∷◌, eqb, Option, Some, None}
use Rattle.event.specs.Limit.{last_place}
use Rattle.text.specs.Field.{fields, on_field, on_end, join}
use Rattle.text.specs.Number.{number_of, on_number, decimal}
use Rattle.text.specs.Word.{bytes, same_bytes}
use Rattle.registers.specs.declared.reg.Register.{Register}

-- Line 1. A list is grouped, of form 2, or not, of form 1.
abbrev pub header : Bool → List ℕ
header grouped = cond grouped (bytes "regs\t2") (bytes "regs\t1")

-- The groups of a list are 1 to the last.
abbrev pub last_group : Bool → ℕ
last_group grouped = cond grouped 2 1

abbrev pub reg_word : List ℕ
reg_word = bytes "reg"

-- After the group: a location, and nothing more.
unfoldable pub reg_rest : ℕ → List (List ℕ) → Option Register
reg_rest g fs = on_field None fs (λ f rest. on_number None (number_of last_place f) (λ p. on_end None rest (Some (record { group = g; location = p }))))

-- A group, and what comes after it.
unfoldable pub group_rest : List (List ℕ) → Option Register
group_rest fs = on_field None fs (λ f rest. on_number None (number_of 2 f) (λ g. cond (eqb g 0) None (reg_rest g rest)))

-- After the word. A line of form 1 names no group: it is group 1's.
unfoldable pub after_word : Bool → List (List ℕ) → Option Register
after_word grouped fs = cond grouped (group_rest fs) (reg_rest 1 fs)

-- What a line is: a register, or not of the layout.
unfoldable pub reg_of : Bool → List ℕ → Option Register
reg_of grouped line = on_field None (fields line) (λ word fs. cond (same_bytes word reg_word) (after_word grouped fs) None)

-- The line of a register.
abbrev pub reg_fields : Bool → Register → List (List ℕ)
reg_fields grouped r = reg_word ∷ cond grouped (decimal r.group ∷ decimal r.location ∷ []) (decimal r.location ∷ [])

unfoldable pub reg_line : Bool → Register → List ℕ
reg_line grouped r = join (reg_fields grouped r)
