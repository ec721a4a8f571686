-- The array of the pass from the end: cell l says whether a store to l before the items passed is closing. And the items of a room from an
-- index on, and the flags that are set from it. Assumes nothing.
use mathlib.Core.Path.{◌≡◌, refl, ◌∙◌}
use mathlib.Core.Bool.{Bool, true, false}
use mathlib.Core.List.{List, [], ◌∷◌}
use Prim.Native.Nat.{ℕ, ◌+◌, ◌-◌, ◌≤◌, ◌<◌}
use native.Mathlib.Omega.{arith}
use lib.Dec.{eqb}
use lib.ListN.{length, get_or, set, replicate, get_or-replicate, length-set}
use lib.Seq.{get_or-set_same, get_or-set_other}
use borrow.Author.Tests.{eqb-false, eqb-true}
use Rattle.laws.proofs.Cases.{cases, either}
use Rattle.event.specs.Room.{Placed, event_at, onward, capacity}
use Rattle.event.specs.declared.Event.{Event}
use Rattle.event.specs.Limit.{places, event_limit}
use Rattle.rules.specs.View.{View, view_in, is_load, is_wall}
use Rattle.rules.specs.Fault.{Fate, Item, closing, fate, group, item}
use Rattle.fates.specs.Pass.{closing_after, closing_at, items_from}
use Rattle.fates.proofs.Arrays.{ArrayOf, array_all, array_at}
use Rattle.sight.proofs.Events.{drop_next, onward_next, place_in}
use Rattle.fates.proofs.Passes.{PlainAt, closing_at_lem, walled}

-- the items of a room
module _ (regs : List Bool) (l ns : List ℕ) (size : length ns ≡ capacity l) where
  pub items_next : (j : ℕ) (e : Event) (k : ℕ) → j < capacity l → e ≡ event_at l j → k ≡ get_or ns j 0
      → items_from regs l ns j ≡ item (view_in regs e) (fate k) ∷ items_from regs l ns (j + 1)
  items_next j e k h p q =
      let i : j < length ns = omega arith in
      rw (onward_next l (capacity l) j e h p, drop_next ns j k i q)

  -- the same where the index after j is called i
  pub items_before : (j i : ℕ) (e : Event) (k : ℕ) → i ≡ j + 1 → j < capacity l → e ≡ event_at l j → k ≡ get_or ns j 0
      → items_from regs l ns j ≡ item (view_in regs e) (fate k) ∷ items_from regs l ns i
  items_before j i e k z h p q = items_next j e k h p q ∙ rw (← z)

  pub items_end : (j : ℕ) → j ≡ capacity l → items_from regs l ns j ≡ []
  unfolding onward
  items_end j e = let z : capacity l - j ≡ 0 = omega arith in rw z

-- the array
abbrev pub Closed : List Bool → List Item → Type 0
Closed cells a = ArrayOf places false cells (λ l. closing (group l a))

pub closed_start : Closed (replicate places true) []
closed_start = array_all places false true (λ l. closing (group l [])) (λ l. refl)

pub closed_wall : (v : View) → is_wall v ≡ true → (f : Fate) (a : List Item) → Closed (replicate places true) (item v f ∷ a)
closed_wall v h f a = rw (walled v h) (λ l k. get_or-replicate {A = Bool} places l true false k)

pub closed_plain : {v : View} {p x : ℕ} → PlainAt v p x → (n : ℕ) (a : List Item) (cells : List Bool) {i : ℕ} → i ≡ p → i < places → length cells ≡ places
    → Closed cells a → {d r : Bool} → d ≡ is_load v → r ≡ closing_after d n (get_or cells i false) → Closed (set cells i r) (item v (fate n) ∷ a)
closed_plain {v} w n a cells {i} e k size m q g =
    array_at places false cells (λ l. closing (group l a)) (λ l. closing (group l (item v (fate n) ∷ a)))
    (λ l. closing_after (is_load v) n (closing (group l a))) (closing_at_lem w n a) e (g ∙ rw (q, m i k)) k size m

pub closed_is : (cells : List Bool) {a b : List Item} → b ≡ a → Closed cells a → Closed cells b
closed_is cells e m = rw e m

-- the flags
pub flag_is : (regs : List Bool) (l ns : List ℕ) (j : ℕ) (e : Event) {i p : ℕ} {w : Bool} → i ≡ j + 1 → e ≡ event_at l j → p ≡ e.place
    → w ≡ closing (group p (items_from regs l ns i)) → w ≡ closing_at regs l ns j
flag_is regs l ns j e z q h g = g ∙ rw (h, q, z)

pub flags_next : (flags : List Bool) (f : ℕ → Bool) (j n : ℕ) {i : ℕ} {w : Bool} → i ≡ j + 1 → j < length flags → w ≡ f j
    → ((k : ℕ) → i ≤ k → k < n → get_or flags k false ≡ f k) → (k : ℕ) → j ≤ k → k < n → get_or (set flags j w) k false ≡ f k
flags_next flags f j n {i} {w} z h g m k a b =
    cases (either (eqb k j))
    (λ e. rw (eqb-true k j e) (get_or-set_same flags j w false h ∙ g))
    (λ e. let d = eqb-false k j e in get_or-set_other flags j k w false d ∙ m k (above d) b)
  where
    above : (k ≡ j → ⊥) → i ≤ k
    above d = omega arith

-- ---- the events from an index on are passed: the array and the flags are right of them
pub record Passed (regs : List Bool) (l ns : List ℕ) (cells flags : List Bool) (i : ℕ) : Type 0 where
  pub cells_size : length cells ≡ places
  pub flags_size : length flags ≡ event_limit
  pub closed : Closed cells (items_from regs l ns i)
  pub flagged : (k : ℕ) → i ≤ k → k < capacity l → get_or flags k false ≡ closing_at regs l ns k

module _ (regs : List Bool) (l ns : List ℕ) (size : length ns ≡ capacity l) where
  pub passed_start : Passed regs l ns (replicate places true) (replicate event_limit false) (length ns)
  passed_start = record {
    cells_size = refl;
    flags_size = refl;
    closed = closed_is (replicate places true) (items_end regs l ns size (length ns) size) closed_start;
    flagged = λ k h i. absurd (omega arith);
  }

-- one event before, at the location p
module _ {regs : List Bool} {l ns : List ℕ} (size : length ns ≡ capacity l) where
  module _ (low : Placed l) (room : capacity l ≤ event_limit) {cells flags : List Bool} {i : ℕ} (t : Passed regs l ns cells flags i) (some_left : 0 < i)
      (in_room : i ≤ length ns) (e : Event) (h : e ≡ event_at l (i - 1)) {p : ℕ} (q : p ≡ e.place) where
    here : i - 1 < capacity l
    here = omega arith

    pub place_below : p < places
    place_below = place_in l low (i - 1) here e h q

    pub passed_next : (next : List Bool) → length next ≡ places → Closed next (item (view_in regs e) (fate (get_or ns (i - 1) 0)) ∷ items_from regs l ns i)
        → Passed regs l ns next (set flags (i - 1) (get_or cells p false)) (i - 1)
    passed_next next s m =
        let z : i ≡ i - 1 + 1 = omega arith in
        let f : i - 1 < length flags = omega (arith, t.flags_size, here) in
        record {
          cells_size = s;
          flags_size = simp length-set t.flags_size;
          closed = closed_is next (items_before regs l ns size (i - 1) i e (get_or ns (i - 1) 0) z here h refl) m;
          flagged =
              flags_next flags (closing_at regs l ns) (i - 1) (capacity l) z f
              (flag_is regs l ns (i - 1) e z h q (t.closed p place_below)) t.flagged;
        }
