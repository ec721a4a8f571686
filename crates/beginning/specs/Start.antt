-- Requests C-12, C-18 and C-16: what the beginning of a run hands back, and what it leaves in the rooms and in the lent array of 800 numbers. Assumes nothing.
use Rattle.std.specs.Prelude.{◌≡◌, Bool, false, cond, List, [], ◌∷◌, ℕ, zero, suc, eqb, length}
use Rattle.memory.specs.Listed.{none_listed}
use Rattle.frame.specs.Reading.{settle}
use Rattle.registers.specs.Reading.{ListRead}
use Rattle.trace.specs.Listed.{unless_listed}
use Rattle.checker.specs.Check.{Lent, check_in, entry_room_in, entry_room_listed, refused, source_room_in, source_room_listed, target_room_in, target_room_listed}
use Rattle.checker.specs.Demand.{entries_for, target_of}
use Rattle.checker.specs.declared.Checked.{Checked}
use Rattle.changes.specs.Apply.{front}
use Rattle.changes.specs.declared.Run.{Run}
use Rattle.course.specs.Cost.{cost}
use Rattle.beginning.specs.declared.Started.{Started}

-- ---- the beginning: an accepted matching opens a run, of the source's events

abbrev pub beginning : Checked → Run
beginning c = record { begun = eqb c.answer.number 0; standing = cond (eqb c.answer.number 0) c.source.events 0 }

-- The numbers of the source's n events, from the index i on.
abbrev pub counted : ℕ → ℕ → List ℕ
counted i zero = []
counted i (suc n) = i ∷ counted (suc i) n

abbrev pub tags_begun : Checked → List ℕ → List ℕ
tags_begun c tags = cond (eqb c.answer.number 0) (front (counted 0 c.source.events) tags) tags

-- How many steps it will have under a list of registers: what the matching costs (request C-18), and none if it is not accepted.
abbrev pub cost_in : List Bool → Lent → ℕ
cost_in regs l = cond (eqb (check_in regs l).answer.number 0) (cost (length (target_of l)) (entries_for l)) 0

-- What a beginning hands back, and what it leaves in the rooms and in the array.
abbrev pub started_in : List Bool → Lent → Started
started_in regs l = record { checked = check_in regs l; run = beginning (check_in regs l); cost = cost_in regs l }

abbrev pub tags_in : List Bool → Lent → List ℕ → List ℕ
tags_in regs l tags = tags_begun (check_in regs l) tags

pub record StartsIn (regs : List Bool) (l : Lent) (tags : List ℕ) (r : Started) (source_room_of target_room_of entry_room_of after : List ℕ) : Type 0 where
  pub result : r ≡ started_in regs l
  pub source : source_room_of ≡ source_room_in regs l
  pub target : target_room_of ≡ target_room_in regs l
  pub entries : entry_room_of ≡ entry_room_in regs l
  pub left : after ≡ tags_in regs l tags

-- The same without a list.
abbrev pub started_of : Lent → Started
started_of = started_in none_listed

abbrev pub tags_of : Lent → List ℕ → List ℕ
tags_of = tags_in none_listed

abbrev pub cost_of : Lent → ℕ
cost_of = cost_in none_listed

abbrev pub Starts : Lent → List ℕ → Started → List ℕ → List ℕ → List ℕ → List ℕ → Type 0
Starts = StartsIn none_listed

-- Where no run begins.
abbrev pub not_begun : Checked → Started
not_begun c = record { checked = c; run = record { begun = false; standing = 0 }; cost = 0 }

-- With what was read of a list: its answer comes ahead of the source's, and its refusal begins no run and stores nothing.
unfoldable pub started_listed : ListRead → Lent → Started
started_listed list l = settle (λ a. not_begun (refused a)) list.answer (started_in list.listed l)

abbrev pub tags_listed : ListRead → Lent → List ℕ → List ℕ
tags_listed list l tags = unless_listed list tags (tags_in list.listed l tags)

pub record StartsListed (list : ListRead) (l : Lent) (tags : List ℕ) (r : Started) (source_room_of target_room_of entry_room_of after : List ℕ) : Type 0 where
  pub result : r ≡ started_listed list l
  pub source : source_room_of ≡ source_room_listed list l
  pub target : target_room_of ≡ target_room_listed list l
  pub entries : entry_room_of ≡ entry_room_listed list l
  pub left : after ≡ tags_listed list l tags
