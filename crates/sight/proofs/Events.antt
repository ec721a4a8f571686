-- The events of a room as a list: the event at an index, the first of those from an index on, and how many there are.
-- Assumes nothing.
use mathlib.Core.Path.{◌≡◌, refl, sym, ◌∙◌, ap}
use mathlib.Core.List.{List, ◌∷◌}
use Prim.Native.Nat.{ℕ, zero, suc, ◌+◌, ◌-◌, ◌≤◌, ◌<◌}
use native.Mathlib.Numerals.{add-one}
use native.Mathlib.Omega.{arith}
use lib.ListN.{length, get_or, drop}
use lib.Seq.{drop-cons}
use borrow.Author.Tests.{le-ltb}
use Rattle.laws.proofs.Cases.{cases, side}
use Rattle.event.specs.Limit.{places}
use Rattle.event.specs.Room.{Placed, event_at, onward, no_event, capacity}
use Rattle.event.specs.declared.Event.{Event}

module _ (l : List ℕ) where
  onward_at : (n i k : ℕ) → k < n → get_or (onward l i n) k no_event ≡ event_at l (i + k)
  unfolding onward
  onward_at zero i k h = absurd (omega arith)
  onward_at (suc n) i zero h = let e : i ≡ i + 0 = omega arith in ap (event_at l) e
  onward_at (suc n) i (suc k) h = let e : i + 1 + k ≡ i + suc k = omega arith in onward_at n (i + 1) k (omega arith) ∙ ap (event_at l) e

  onward_past : (n i k : ℕ) → n ≤ k → get_or (onward l i n) k no_event ≡ no_event
  unfolding onward
  onward_past zero i k h = refl
  onward_past (suc n) i zero h = absurd (omega arith)
  onward_past (suc n) i (suc k) h = onward_past n (i + 1) k (omega arith)

  past : (k : ℕ) → capacity l ≤ k → event_at l k ≡ no_event
  unfolding event_at
  past k h = rw (le-ltb k (capacity l) h)

  -- also past the end, where there is no event
  pub room_at : (k : ℕ) → get_or (onward l 0 (capacity l)) k no_event ≡ event_at l k
  room_at k =
      cases (side k (capacity l))
      (λ h. let e : 0 + k ≡ k = omega arith in onward_at (capacity l) 0 k h ∙ ap (event_at l) e)
      (λ h. onward_past (capacity l) 0 k h ∙ sym (past k h))

  pub onward_next : (n i : ℕ) (e : Event) → i < n → e ≡ event_at l i → onward l i (n - i) ≡ e ∷ onward l (i + 1) (n - (i + 1))
  unfolding onward
  onward_next n i e h q = let m : n - i ≡ suc (n - (i + 1)) = omega arith in rw (m, q)

  -- a room whose places are below 256, and an index that is an event's place
  pub place_in : Placed l → (i : ℕ) → i < capacity l → (e : Event) → e ≡ event_at l i → {p : ℕ} → p ≡ e.place → p < places
  place_in low i h e q r = rw (r, q) (low i h)

  pub onward_length : (i n : ℕ) → length (onward l i n) ≡ n
  unfolding onward
  onward_length i zero = refl
  onward_length i (suc n) = ap suc (onward_length (i + 1) n)

-- the entries from an index on
pub drop_next : (l : List ℕ) (i k : ℕ) → i < length l → k ≡ get_or l i 0 → drop i l ≡ k ∷ drop (i + 1) l
drop_next l i k h e = rw (e, add-one i) (drop-cons l i 0 h)
