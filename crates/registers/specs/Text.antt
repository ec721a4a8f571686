-- Document 02, C-16 and C-20: the text of a list, and which registers have one. Assumes nothing.
use Rattle.std.specs.Prelude.{ℕ, ◌+◌, ◌≤◌, Bool, List, [], ◌∷◌, ◌++◌, map, length}
use Rattle.event.specs.Limit.{last_place}
use Rattle.text.specs.Line.{unsplit}
use Rattle.registers.specs.Reg.{header, last_group, reg_line}
use Rattle.registers.specs.Reading.{reg_limit, rank, of_group}
use Rattle.registers.specs.declared.reg.Register.{Register}

-- Line 1 and a line for each register; nothing stands after the last LF.
abbrev pub list_text : Bool → List Register → List ℕ
list_text grouped rs = unsplit (header grouped ∷ map (reg_line grouped) rs ++ ([] ∷ []))

-- A register that a line can name.
pub record Named (grouped : Bool) (r : Register) : Type 0 where
  pub one : 1 ≤ r.group
  pub group : r.group ≤ last_group grouped
  pub location : r.location ≤ last_place

-- Registers that ascend strictly, from a lowest rank on.
abbrev pub Ascending : Bool → ℕ → List Register → Type 0
Ascending grouped low [] = Unit {0}
Ascending grouped low (r ∷ rs) = ((low ≤ rank r) × Named grouped r) × Ascending grouped (rank r + 1) rs

-- Registers that have a text: few of each group, and strictly ascending.
pub record Fits (grouped : Bool) (rs : List Register) : Type 0 where
  pub few : (g : ℕ) → length (of_group g rs) ≤ reg_limit
  pub rising : Ascending grouped 0 rs
