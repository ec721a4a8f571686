-- Document 02, C-20: two lists that agree on a group's lines give it the same shortening, and leave the same behind. Assumes nothing.
use Prim.Native.Nat.{ℕ}
use mathlib.Core.Path.{◌≡◌, refl}
use mathlib.Core.List.{List}
use Rattle.registers.specs.Groups.{Agree}
use Rattle.registers.specs.Reading.{list_of}
use Rattle.registers.proofs.Groups.{agreed}
use Rattle.shorten.specs.Text.{shorten_listed, short_out_listed, matching_out_listed}

pub shorten_agrees : (g : ℕ) (a b : List ℕ) → Agree g a b → (t out names : List ℕ)
    → (shorten_listed (list_of g a) t out names ≡ shorten_listed (list_of g b) t out names)
    × (short_out_listed (list_of g a) t out names ≡ short_out_listed (list_of g b) t out names)
    × (matching_out_listed (list_of g a) t out names ≡ matching_out_listed (list_of g b) t out names)
shorten_agrees g a b s t out names = rw (agreed g a b s) (refl, refl, refl)
