-- What owning an array of words tells: each of them is a value of the layout. Assumes nothing.
use Prim.Native.Nat.{ℕ, ◌<◌}
use mathlib.Core.List.{List, [], ◌∷◌}
use native.Mathlib.Omega.{arith}
use mir.Syntax.{w64}
use mir.Val.{Val}
use denote.Array.{each}
use denote.Plain.{UInt}
use denote.Shadow.{shadow}
use Rattle.trace.specs.Text.{Valued}

pub words_below : (cells : List ℕ) (us : List Val) → shadow (each ℕ (UInt w64).own_val cells us) → Valued cells
words_below [] us s = tt
words_below (v ∷ cells) [] s = absurd s
words_below (v ∷ cells) (u ∷ us) s = (let b : v < 18446744073709551616 = s.0.1 in omega arith, words_below cells us s.1)
