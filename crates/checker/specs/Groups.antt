-- Document 02, C-20: "Between any two lists that are both read without refusal, and agree on a group's lines, every answer to that group is the same,
-- offending line included". Assumes nothing.
use Rattle.std.specs.Prelude.{ℕ, List, ◌≡◌}
use Rattle.registers.specs.Groups.{Agree}
use Rattle.registers.specs.Reading.{list_of}
use Rattle.registers.specs.Reading.{ListRead}
use Rattle.checker.specs.Check.{Lent, check_listed, source_room_listed, target_room_listed, entry_room_listed}
use Rattle.checker.specs.Line.{offending_line}

-- What was read of two lists gives the same check: what it hands back, what it leaves in the rooms, and the offending line.
pub record SameCheck (a b : ListRead) (l : Lent) : Type 0 where
  pub result : check_listed a l ≡ check_listed b l
  pub source : source_room_listed a l ≡ source_room_listed b l
  pub target : target_room_listed a l ≡ target_room_listed b l
  pub entries : entry_room_listed a l ≡ entry_room_listed b l
  pub line : offending_line l.source l.target (check_listed a l).answer ≡ offending_line l.source l.target (check_listed b l).answer

abbrev pub Apart : Type 0
Apart = (g : ℕ) (a b : List ℕ) → Agree g a b → (l : Lent) → SameCheck (list_of g a) (list_of g b) l
