-- Requests C-12, C-18 and C-16 for C and Rust: how a beginning, a run and a step lie in the arrays that are lent. Assumes nothing.
use Rattle.std.specs.Prelude.{ℕ, List, ◌≡◌}
use Rattle.std.proofs.Math.Option.{Option}
use Rattle.registers.specs.Reading.{ListRead}
use Rattle.rules.specs.Run.{Traced}
use Rattle.checker.specs.Check.{Lent, source_room_after, target_room_after, entry_room_after, source_room_listed, target_room_listed, entry_room_listed}
use Rattle.changes.specs.Apply.{applied_of, tags_after}
use Rattle.changes.specs.declared.Run.{Run}
use Rattle.beginning.specs.Start.{started_listed, started_of, tags_listed, tags_of}
use Rattle.beginning.specs.declared.Started.{Started}
use Rattle.numbers.specs.Numbers.{flag, run_numbers}
use Rattle.results.specs.Results.{start_numbers}

-- What a beginning leaves in the lent arrays and rooms: what it is to hand back, laid out, and the rooms and the tags as they are to be.
pub record Opens (s : Started) (source target matching tags : List ℕ) (result run source_room_of target_room_of entry_room_of after : List ℕ) : Type 0 where
  pub numbers : result ≡ start_numbers s
  pub begun : run ≡ run_numbers s.run
  pub source_events_of : source_room_of ≡ source
  pub target_events_of : target_room_of ≡ target
  pub entries : entry_room_of ≡ matching
  pub left : after ≡ tags

-- Without a list, and with one.
abbrev pub Begins : Lent → List ℕ → List ℕ → List ℕ → List ℕ → List ℕ → List ℕ → List ℕ → Type 0
Begins l tags = Opens (started_of l) (source_room_after l) (target_room_after l) (entry_room_after l) (tags_of l tags)

abbrev pub BeginsListed : ListRead → Lent → List ℕ → List ℕ → List ℕ → List ℕ → List ℕ → List ℕ → List ℕ → Type 0
BeginsListed list l tags =
    Opens (started_listed list l) (source_room_listed list l) (target_room_listed list l) (entry_room_listed list l) (tags_listed list l tags)

-- What a step that is allowed or refused hands back and leaves.
pub record Leaves (r : Run) (tags : List ℕ) (o : Option (List Traced)) (allowed : ℕ) (run after : List ℕ) : Type 0 where
  pub answer : allowed ≡ flag (applied_of r o).allowed
  pub standing : run ≡ run_numbers (applied_of r o).run
  pub left : after ≡ tags_after tags o
