-- Laws of bytes stored in a room: a word after another, and what a word at the front leaves. Assumes nothing.
use Prim.Native.Nat.{ℕ, suc, ◌+◌, ◌≤◌}
use mathlib.Core.Path.{◌≡◌, sym, ◌∙◌}
use mathlib.Core.List.{List, [], ◌∷◌, ◌++◌}
use native.Mathlib.Omega.{arith}
use lib.ListN.{length, take, drop, set}
use lib.Seq.{sets, sets-eq, length-sets, take_at}
use Rattle.text.specs.Write.{wrote}

-- a word stored after a word: both stored as one
pub sets_append : (room : List ℕ) (at : ℕ) (v w : List ℕ) → sets room at (v ++ w) ≡ sets (sets room at v) (at + length v) w
sets_append room at [] w = let z : at + 0 ≡ at = omega arith in rw z
sets_append room at (b ∷ v) w =
    let z : at + suc (length v) ≡ suc at + length v = omega arith in
    rw z (sets_append (set room at b) (suc at) v w)

-- a byte stored after a word at the front
pub wrote_next : (room v : List ℕ) (b : ℕ) → set (wrote room v) (length v) b ≡ wrote room (v ++ b ∷ [])
wrote_next room v b =
    let z : 0 + length v ≡ length v = omega arith in
    sym (sets_append room 0 v (b ∷ []) ∙ rw z)

module _ (room v : List ℕ) where
  -- the room stays as long as it was
  pub length_wrote : length (wrote room v) ≡ length room
  length_wrote = length-sets room 0 v

  -- up to the end of a word for which there is room: the word
  pub take_wrote : length v ≤ length room → take (length v) (wrote room v) ≡ v
  take_wrote h = rw (sets-eq v room 0 (omega arith)) (take_at v (drop (0 + length v) room) (length v) (omega arith))
