-- Document 02, C-20: two lists that agree on a group's lines give it the same reading, writing and move, and leave the same behind. Assumes nothing.
use Prim.Native.Nat.{ℕ}
use mathlib.Core.Path.{◌≡◌, refl}
use mathlib.Core.List.{List}
use Rattle.memory.specs.declared.Memory.{Memory}
use Rattle.registers.specs.Groups.{Agree}
use Rattle.registers.specs.Reading.{list_of}
use Rattle.registers.proofs.Groups.{agreed}
use Rattle.record.specs.declared.form.Form.{Form}
use Rattle.trace.specs.Listed.{read_listed, room_listed, write_listed, out_listed, move_listed, moved_listed}

module _ (g : ℕ) (a b : List ℕ) (s : Agree g a b) where
  pub read_agrees : (t room : List ℕ)
      → (read_listed (list_of g a) t room ≡ read_listed (list_of g b) t room) × (room_listed (list_of g a) t room ≡ room_listed (list_of g b) t room)
  read_agrees t room = rw (agreed g a b s) (refl, refl)

  pub write_agrees : (f : Form) (m : Memory) (room out : List ℕ)
      → (write_listed (list_of g a) f m room out ≡ write_listed (list_of g b) f m room out) × (out_listed (list_of g a) f m room out ≡ out_listed (list_of g b) f m room out)
  write_agrees f m room out = rw (agreed g a b s) (refl, refl)

  pub move_agrees : (to : Form) (t out : List ℕ)
      → (move_listed (list_of g a) to t out ≡ move_listed (list_of g b) to t out) × (moved_listed (list_of g a) to t out ≡ moved_listed (list_of g b) to t out)
  move_agrees to t out = rw (agreed g a b s) (refl, refl)
