-- Document 02, C-20: "Between any two lists that are both read without refusal, and agree on a group's lines, every answer to that group is the same". Assumes
-- nothing.
use Rattle.std.specs.Prelude.{ℕ, List, ◌≡◌}
use Rattle.registers.specs.Reading.{group_of, list_of}

-- Two lists that are read without refusal and have the same lines for a group: they list the same locations for it, whatever their forms are.
pub record Agree (g : ℕ) (a b : List ℕ) : Type 0 where
  pub first : (list_of g a).answer.number ≡ 0
  pub second : (list_of g b).answer.number ≡ 0
  pub lines : group_of g a ≡ group_of g b
