-- Laws of bytes put from a place on: one part after another, and what is left of a whole while its parts are put. Assumes nothing.
use Prim.Native.Nat.{ℕ, zero, suc, ◌+◌, ◌≤◌, ◌<◌}
use mathlib.Core.Path.{◌≡◌, refl, sym, ◌∙◌, ap}
use mathlib.Core.List.{List, [], ◌∷◌, ◌++◌}
use native.Mathlib.Omega.{arith}
use native.Mathlib.Numerals.{add-one}
use lib.ListN.{length, get_or, set, take, drop, replicate, length-append, drop_of_length-le}
use lib.Seq.{sets, drop-cons}
use Rattle.text.specs.Number.{decimal}
use Rattle.text.specs.Write.{wrote}
use Rattle.text.proofs.Decimals.{length_wide}
use Rattle.text.proofs.Writes.{sets_append, length_wrote, take_wrote}
use Rattle.record.specs.declared.form.Form.{Form}
use Rattle.record.specs.declared.form.Form.TheVariants.{One, Two}
use Rattle.trace.specs.Text.{longest_text}
use Rattle.writer.specs.Put.{Put, Small}

-- a byte stored beyond the end changes nothing, and so do bytes
pub set_beyond : (l : List ℕ) (i b : ℕ) → length l ≤ i → set l i b ≡ l
set_beyond [] i b h = refl
set_beyond (a ∷ l) zero b h = absurd (omega arith)
set_beyond (a ∷ l) (suc i) b h = ap (λ (m : List ℕ). a ∷ m) (set_beyond l i b (omega arith))

pub sets_beyond : (room : List ℕ) (at : ℕ) (v : List ℕ) → length room ≤ at → sets room at v ≡ room
sets_beyond room at [] h = refl
sets_beyond room at (b ∷ v) h = rw (set_beyond room at b h) (sets_beyond room (suc at) v (omega arith))

-- bytes that all lie beyond the end are counted
pub put_beyond : (room : List ℕ) (at : ℕ) (v : List ℕ) → length room ≤ at → Put room at v room (at + length v)
put_beyond room at v h = record { counted = refl; stored = sym (sets_beyond room at v h) }

-- nothing put
pub put_none : (room : List ℕ) (at : ℕ) → Put room at [] room at
put_none room at = record { counted = omega arith; stored = refl }

-- two parts put one after the other
pub then : {room room₁ room₂ v w : List ℕ} {at at₁ at₂ : ℕ} → Put room at v room₁ at₁ → Put room₁ at₁ w room₂ at₂
    → Put room at (v ++ w) room₂ at₂
then {room} {v = v} {w} {at} p q = record {
  counted = omega (arith, length-append v w, p.counted, q.counted);
  stored = q.stored ∙ rw (p.stored, p.counted, sets_append room at v w);
}

-- while a whole is put from `at`: what is left, put from `here`, brings what the whole brings
pub record Left (room : List ℕ) (at : ℕ) (whole now : List ℕ) (here : ℕ) (rest : List ℕ) : Type 0 where
  pub small : Small at whole
  pub counts : here + length rest ≡ at + length whole
  pub stores : sets now here rest ≡ sets room at whole

pub left_all : (room : List ℕ) (at : ℕ) (whole rest : List ℕ) → Small at whole → whole ≡ rest → Left room at whole room at rest
left_all room at whole rest h e = record { small = h; counts = rw e; stores = rw e }

module _ {room : List ℕ} {at : ℕ} {whole now : List ℕ} {here : ℕ} {left : List ℕ} (l : Left room at whole now here left) where
  -- a part of what is left is put
  module _ (v rest : List ℕ) (e : left ≡ v ++ rest) where
    -- the place after it is small, as that after the whole is
    pub left_small : Small here v
    left_small = omega (arith, length-append v rest, ap length e, l.counts, l.small)

    pub left_next : {now₁ : List ℕ} {here₁ : ℕ} → Put now here v now₁ here₁ → Left room at whole now₁ here₁ rest
    left_next p = record {
      small = l.small;
      counts = omega (arith, length-append v rest, ap length e, p.counted, l.counts);
      stores = rw (p.stored, p.counted) (sym (sets_append now here v rest) ∙ (rw e at l.stores));
    }

  pub left_none : left ≡ [] → Put room at whole now here
  left_none e = let m = rw e at l in record { counted = omega (arith, m.counts); stored = m.stores }

-- bytes one by one
module _ {room : List ℕ} {at : ℕ} {bytes now : List ℕ} {i : ℕ} (l : Left room at bytes now (at + i) (drop i bytes)) where
  pub left_byte : i < length bytes → {now₁ : List ℕ} → now₁ ≡ set now (at + i) (get_or bytes i 0) → Left room at bytes now₁ (at + (i + 1)) (drop (i + 1) bytes)
  left_byte h q =
      left_next l (get_or bytes i 0 ∷ []) (drop (i + 1) bytes) (rw (add-one i, drop-cons bytes i 0 h)) (record { counted = omega arith; stored = q })

  pub left_no_byte : length bytes ≤ i → Put room at bytes now (at + length bytes)
  left_no_byte h = let p = left_none l (drop_of_length-le bytes {i = i} h) in record { counted = refl; stored = p.stored }

-- a number's digits, written at the front of an array, read back
pub digits_put : (n : ℕ) → n < 18446744073709551616 → {r : ℕ} {after : List ℕ} → (r ≡ length (decimal n)) × (after ≡ wrote (replicate 20 0) (decimal n))
    → (r ≤ length after) × (take r after ≡ decimal n)
digits_put n h p =
    let few : length (decimal n) ≤ 20 = length_wide n (omega arith) in
    rw (p.1, p.0) (omega (arith, length_wrote (replicate 20 0) (decimal n)), take_wrote (replicate 20 0) (decimal n) few)

-- a text that is no longer than the longest of its form has bytes few enough to be counted
pub small_text : (f : Form) (t : List ℕ) → length t ≤ longest_text f → Small 0 t
small_text One t h = omega arith
small_text Two t h = omega arith
