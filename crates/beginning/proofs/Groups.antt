-- Document 02, C-20: two lists that agree on a group's lines give it the same beginning of a run: what is handed back, and the array. Assumes nothing.
use Prim.Native.Nat.{ℕ}
use mathlib.Core.Path.{◌≡◌, refl}
use mathlib.Core.List.{List}
use Rattle.registers.specs.Groups.{Agree}
use Rattle.registers.specs.Reading.{list_of}
use Rattle.registers.proofs.Groups.{agreed}
use Rattle.checker.specs.Check.{Lent}
use Rattle.beginning.specs.Start.{started_listed, tags_listed}

pub start_agrees : (g : ℕ) (a b : List ℕ) → Agree g a b → (l : Lent) (tags : List ℕ)
    → (started_listed (list_of g a) l ≡ started_listed (list_of g b) l) × (tags_listed (list_of g a) l tags ≡ tags_listed (list_of g b) l tags)
start_agrees g a b s l tags = rw (agreed g a b s) (refl, refl)
