-- Document 02, C-17: a compare exchange that fails is an atomic load with its failure order. It leaves the memory as it was, as whatever sets nothing
-- does; its value must be the latest, and it synchronises. Assumes nothing.
use Rattle.std.proofs.Common.{◌≡◌, ℕ, Bool, true, false, cond, eqb, List, [], ◌∷◌, get_or, refl}
use lib.Seq.{set-get_or}
use Rattle.laws.specs.Has.{has}
use Rattle.kinds.specs.Kind.{row, takes, rlx, acq, rel, ar, sc, aload, cmpfail, atomic, lawful}
use Rattle.memory.specs.Memory.{left, after, latest, stepped}
use Rattle.event.specs.declared.Event.{Event}
use Rattle.kinds.specs.declared.Sets.TheVariants.{Nothing}
use Rattle.memory.specs.declared.Memory.{Memory}
use Rattle.memory.specs.declared.Stepped.{Stepped}
use Rattle.kinds.proofs.Lawful.{order_of_lem}

-- all that the table says of a kind is the same of both
pub an_atomic_load : row cmpfail ≡ row aload
unfolding row
an_atomic_load = refl

-- what sets nothing leaves its cell as found, and so every cell, whether it is lawful or not
module _ (e : Event) (sets-nothing : (row e.kind).sets ≡ Nothing) where
  pub cell_as_found : (was : ℕ) → left was e ≡ was
  cell_as_found was = rw sets-nothing

  pub cells_as_found : (l : List ℕ) → after l e ≡ l
  unfolding after
  cells_as_found l = rw (cell_as_found (get_or l e.place 0)) (set-get_or l e.place 0)

  pub memory_as_found : (m : Memory) → (stepped m e).memory ≡ m
  unfolding stepped
  memory_as_found m = go (lawful e)
    where
      stays : Stepped
      stays = record { memory = m; right = false }

      goes : Stepped
      goes = record { memory = record { cells = after m.cells e }; right = latest m.cells e }

      go : (c : Bool) → (cond {A = Stepped} c goes stays).memory ≡ m
      go true = rw (cells_as_found m.cells)
      go false = refl

module _ (e : Event) (failed : e.kind ≡ cmpfail) where
  pub failed_sets_nothing : (row e.kind).sets ≡ Nothing
  unfolding row
  failed_sets_nothing = rw failed

  -- "a failed exchange writes nothing"
  pub failed_writes_nothing : (m : Memory) → (stepped m e).memory ≡ m
  failed_writes_nothing m = memory_as_found e failed_sets_nothing m

  -- "it is synchronising"
  pub failed_synchronises : atomic e ≡ true
  unfolding row
  failed_synchronises = rw failed

  module _ (law : lawful e ≡ true) where
    -- "its value must be the latest"
    pub failed_reads_latest : (m : Memory) → (stepped m e).right ≡ eqb e.first (get_or m.cells e.place 0)
    unfolding stepped latest row
    failed_reads_latest m = rw (law, failed)

    -- "order (`rlx` `acq` `sc`)"
    pub failed_order : has e.order (rlx ∷ acq ∷ sc ∷ []) ≡ true
    unfolding takes row
    failed_order = rw failed at (order_of_lem e law)

-- and so no release order
pub no_release : (takes (row cmpfail).orders rel ≡ false) × (takes (row cmpfail).orders ar ≡ false)
unfolding takes row
no_release = (refl, refl)
