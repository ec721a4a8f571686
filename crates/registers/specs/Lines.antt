-- The steps of a reading: the lines after some registers. Assumes nothing.
use Rattle.std.specs.Prelude.{ℕ, ◌+◌, Bool, true, cond, List, eqb, set}
use Rattle.frame.specs.Reading.{tried}
use Rattle.registers.specs.Reading.{SoFar, regs_layout, regs_in, of_group, marked, refused, read_as, ListRead}
use Rattle.registers.specs.declared.reg.Register.{Register}

-- The marks with that of a register, if it is the group's.
unfoldable pub marked_for : ℕ → List Bool → Register → List Bool
marked_for g marks r = cond (eqb r.group g) (set marks r.location true) marks

-- What lines list for a group besides the marks set so far.
abbrev pub marking : Bool → ℕ → List Bool → List (List ℕ) → ListRead
marking grouped g marks ls = read_as (marked marks (of_group g (regs_in grouped ls)))

-- The lines after n others and line 1, by what is known, with the marks of the group set so far.
abbrev pub lines_read : Bool → ℕ → ℕ → SoFar → List Bool → List (List ℕ) → ListRead
lines_read grouped g n s marks ls = tried (regs_layout grouped) refused 4 (n + 2) s (marking grouped g marks) ls
