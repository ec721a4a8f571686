-- Laws of a text cut at a byte s, by a place of the text: what stands there, where the part that starts there ends, and which parts follow.
-- Assumes nothing.
use Prim.Native.Nat.{ℕ, suc, ◌+◌, ◌-◌, ◌≤◌, ◌<◌}
use mathlib.Core.Path.{◌≡◌, refl, sym, ◌∙◌, ap}
use mathlib.Core.Bool.{Bool, true, false, cond}
use mathlib.Core.Logic.{◌⊎◌, inl, inr}
use mathlib.Core.List.{List, [], ◌∷◌}
use native.Mathlib.Numerals.{add-one}
use native.Mathlib.Omega.{arith}
use lib.Dec.{eqb}
use lib.ListN.{length, get_or, take, drop, length-drop, drop_of_length-le}
use lib.Seq.{drop-cons, drop-drop}
use borrow.Author.Tests.{ne_eqb, eq-eqb, lt-ltb, le-ltb}
use Rattle.laws.proofs.Cases.{cases, either, side}
use Rattle.text.specs.Cut.{until, cut, cut_from}

-- what comes after a part: nothing, or the parts after its s
unfoldable pub more : ℕ → List ℕ → List (List ℕ)
more s [] = []
more s (b ∷ l) = cut s l

module _ (s : ℕ) where
  cut_step : (b : ℕ) (l : List ℕ) → cut s l ≡ take (until s l) l ∷ more s (drop (until s l) l) → (eqb b s ≡ true) ⊎ (eqb b s ≡ false)
      → cut s (b ∷ l) ≡ take (until s (b ∷ l)) (b ∷ l) ∷ more s (drop (until s (b ∷ l)) (b ∷ l))
  unfolding cut until more
  cut_step b l ih (inl p) = rw p
  cut_step b l ih (inr p) = rw (p, ih)

  -- a text's first part, and those after it
  pub cut_eq : (l : List ℕ) → cut s l ≡ take (until s l) l ∷ more s (drop (until s l) l)
  unfolding cut until more
  cut_eq [] = refl
  cut_eq (b ∷ l) = cut_step b l (cut_eq l) (either (eqb b s))

  until_step : (e : Bool) (m n : ℕ) → m ≤ n → cond e 0 (suc m) ≤ suc n
  until_step true m n h = omega arith
  until_step false m n h = omega arith

  pub until_le : (l : List ℕ) → until s l ≤ length l
  unfolding until
  until_le [] = omega arith
  until_le (b ∷ l) = until_step (eqb b s) (until s l) (length l) (until_le l)

  module _ (t : List ℕ) (i : ℕ) where
    -- s stands at the place
    pub until_stop : i < length t → get_or t i 0 ≡ s → until s (drop i t) ≡ 0
    unfolding until
    until_stop h e = rw (drop-cons t i 0 h, eq-eqb (get_or t i 0) s e)

    -- another byte stands there
    pub until_go : i < length t → (get_or t i 0 ≡ s → ⊥) → until s (drop i t) ≡ until s (drop (i + 1) t) + 1
    unfolding until
    until_go h e = rw (drop-cons t i 0 h, ne_eqb (get_or t i 0) s e, add-one i) (sym (add-one _))

    -- nothing stands there
    pub until_out : length t ≤ i → until s (drop i t) ≡ 0
    unfolding until
    until_out h = rw (drop_of_length-le t h)

    -- a part that starts within the text ends within it
    pub until_in : i ≤ length t → i + until s (drop i t) ≤ length t
    until_in h = omega (arith, until_le (drop i t), length-drop i t)

  -- another byte stands k places on
  pub until_on : (t : List ℕ) (i k : ℕ) → i + k < length t → (get_or t (i + k) 0 ≡ s → ⊥)
      → until s (drop (i + k) t) ≡ until s (drop (i + (k + 1)) t) + 1
  until_on t i k h e =
      let one_on : i + k + 1 ≡ i + (k + 1) = omega arith in until_go t (i + k) h e ∙ ap (λ (j : ℕ). until s (drop j t) + 1) one_on

  -- after a part that ends at e: the parts after its s
  pub after_part : (t : List ℕ) (e : ℕ) → e < length t → more s (drop e t) ≡ cut s (drop (e + 1) t)
  unfolding more
  after_part t e k = rw (drop-cons t e 0 k, add-one e)

  -- nothing, if it ends where the text ends
  pub after_last : (t : List ℕ) (e : ℕ) → length t ≤ e → more s (drop e t) ≡ []
  unfolding more
  after_last t e k = rw (drop_of_length-le t k)

  -- the part that starts at a place, by where it ends
  pub here : (t : List ℕ) (at e : ℕ) → e ≡ at + until s (drop at t) → cut s (drop at t) ≡ take (e - at) (drop at t) ∷ more s (drop e t)
  here t at e p =
      let k : until s (drop at t) ≡ e - at = omega arith in
      let m : at + (e - at) ≡ e = omega arith in
      cut_eq (drop at t) ∙ rw (k, drop-drop (e - at) at t, m)

  -- from a place within it
  pub from_in : (t : List ℕ) (at : ℕ) → at ≤ length t → cut_from s t at ≡ cut s (drop at t)
  unfolding cut_from
  from_in t at h = rw (le-ltb (length t) at h)

  -- from its start
  pub from_start : (t : List ℕ) → cut_from s t 0 ≡ cut s t
  from_start t = from_in t 0 (omega arith)

  -- from a place beyond its end
  pub from_out : (t : List ℕ) (at : ℕ) → length t < at → cut_from s t at ≡ []
  unfolding cut_from
  from_out t at h = rw (lt-ltb (length t) at h)

  rest : (t : List ℕ) (e : ℕ) → e ≤ length t → more s (drop e t) ≡ cut_from s t (e + 1)
  rest t e h =
      cases (side e (length t)) (λ k. after_part t e k ∙ sym (from_in t (e + 1) (omega arith)))
      (λ k. after_last t e k ∙ sym (from_out t (e + 1) (omega arith)))

  -- the part that starts at a place within the text, and the parts after it
  pub from_step : (t : List ℕ) (at e : ℕ) → at ≤ length t → e ≡ at + until s (drop at t)
      → cut_from s t at ≡ take (e - at) (drop at t) ∷ cut_from s t (e + 1)
  from_step t at e h p = from_in t at h ∙ here t at e p ∙ rw (rest t e (omega (arith, until_in t at h)))
