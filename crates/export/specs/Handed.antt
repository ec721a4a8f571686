-- Document 01, "Numbers that come back": what a call hands back, laid out as numbers, and what it leaves in the arrays that C and Rust lend. Assumes nothing.
use Rattle.std.specs.Prelude.{ℕ, List, ◌≡◌}
use Rattle.registers.specs.Reading.{ListRead}
use Rattle.memory.specs.declared.Memory.{Memory}
use Rattle.checker.specs.declared.Checked.{Checked}
use Rattle.checker.specs.Check.{Lent, check_of, source_room_after, target_room_after, entry_room_after}
use Rattle.checker.specs.Check.{check_listed, source_room_listed, target_room_listed, entry_room_listed}
use Rattle.results.specs.Results.{check_numbers}

-- The memory of 256 cells.
abbrev pub starting : List ℕ → Memory
starting cells = record { cells = cells }

-- What a check leaves in the lent arrays and rooms: what it is to hand back, laid out, and the three rooms as they are to be.
pub record Lays (c : Checked) (source target matching : List ℕ)
    (result sourceMemory targetMemory source_room_of target_room_of entry_room_of : List ℕ) : Type 0 where
  pub numbers : result ≡ check_numbers c
  pub source_start_of : sourceMemory ≡ c.source.memory.cells
  pub target_start_of : targetMemory ≡ c.target.memory.cells
  pub source_events_of : source_room_of ≡ source
  pub target_events_of : target_room_of ≡ target
  pub entries : entry_room_of ≡ matching

-- Without a list, and with one.
abbrev pub Leaves : Lent → List ℕ → List ℕ → List ℕ → List ℕ → List ℕ → List ℕ → Type 0
Leaves l = Lays (check_of l) (source_room_after l) (target_room_after l) (entry_room_after l)

abbrev pub LeavesListed : ListRead → Lent → List ℕ → List ℕ → List ℕ → List ℕ → List ℕ → List ℕ → Type 0
LeavesListed list l = Lays (check_listed list l) (source_room_listed list l) (target_room_listed list l) (entry_room_listed list l)
