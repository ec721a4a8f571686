-- The near access, event by event, and what may be removed, swapped and inserted, by what an event is seen as. Assumes nothing.
use mathlib.Core.Path.{◌≡◌, refl, sym}
use mathlib.Core.Bool.{Bool, true, false, not, ◌||◌, false≢true}
use mathlib.Core.Option.{Option, none, some, map}
use mathlib.Core.List.{List, [], ◌∷◌, head?}
use Prim.Native.Nat.{ℕ, suc, ◌<◌, ◌≤◌}
use lib.Dec.{eqb}
use lib.ListN.{length, get_or, drop}
use borrow.Author.Tests.{eq-eqb, ne_eqb, le-ltb, lt-ltb}
use Rattle.kinds.specs.Kind.{used}
use Rattle.event.specs.declared.Event.{Event}
use Rattle.rules.specs.View.{View, wall, load, store, view_in, is_load, is_wall, value_of}
use Rattle.rules.specs.Moves.{extend, group, near}
use Rattle.rules.specs.Run.{Traced, event_of, viewed}
use Rattle.sight.proofs.Sight.{Sees, sees_in, a_load_lem, a_store, a_wall_lem}
use Rattle.changes.specs.Apply.{removable_at}
use Rattle.changes.specs.Allowed.{holds, stores, may_insert, may_remove}
use Rattle.changes.specs.Tags.{behind, event_for, trace}

-- ---- of one event more

module _ (regs : List Bool) (l : ℕ) (x : Traced) (b : List Traced) where
  first : View → Option View
  first v = map (viewed (view_in regs)) (head? (extend l v x (group (viewed (view_in regs)) l b)))

  wall₁ : {v : View} {p w : ℕ} {u : Bool} → Sees v p w u → is_wall v ≡ true → first v ≡ none
  unfolding first
  wall₁ a_wall_lem h = refl
  wall₁ a_load_lem h = absurd (false≢true h)
  wall₁ a_store h = absurd (false≢true h)

  here₁ : {v : View} {p w : ℕ} {u : Bool} → Sees v p w u → is_wall v ≡ false → eqb l p ≡ true → first v ≡ some (viewed (view_in regs) x)
  unfolding first
  here₁ a_wall_lem h e = absurd (false≢true (sym h))
  here₁ a_load_lem h e = rw e
  here₁ a_store h e = rw e

  past₁ : {v : View} {p w : ℕ} {u : Bool} → Sees v p w u → is_wall v ≡ false → eqb l p ≡ false → first v ≡ near (viewed (view_in regs)) l b
  unfolding first
  past₁ a_wall_lem h e = absurd (false≢true (sym h))
  past₁ a_load_lem h e = rw e
  past₁ a_store h e = rw e

  pub near_wall : is_wall (viewed (view_in regs) x) ≡ true → near (viewed (view_in regs)) l (x ∷ b) ≡ none
  unfolding first
  near_wall h = wall₁ (sees_in regs (event_of x)) h

  pub near_here : is_wall (viewed (view_in regs) x) ≡ false → (event_of x).place ≡ l → near (viewed (view_in regs)) l (x ∷ b) ≡ some (viewed (view_in regs) x)
  unfolding first
  near_here h e = here₁ (sees_in regs (event_of x)) h (eq-eqb l (event_of x).place (sym e))

  pub near_past : is_wall (viewed (view_in regs) x) ≡ false → ((event_of x).place ≡ l → ⊥) → near (viewed (view_in regs)) l (x ∷ b) ≡ near (viewed (view_in regs)) l b
  unfolding first
  near_past h e = past₁ (sees_in regs (event_of x)) h (ne_eqb l (event_of x).place (λ q. e (sym q)))

-- ---- what an access says

value₁ : {v : View} {p w : ℕ} {u : Bool} → Sees v p w u → is_wall v ≡ false → value_of v ≡ w
value₁ a_wall_lem h = absurd (false≢true (sym h))
value₁ a_load_lem h = refl
value₁ a_store h = refl

pub value_of_lem : (regs : List Bool) (e : Event) → is_wall (view_in regs e) ≡ false → value_of (view_in regs e) ≡ e.first
value_of_lem regs e h = value₁ (sees_in regs e) h

store₁ : {v : View} {p w : ℕ} {u : Bool} → Sees v p w u → is_wall v ≡ false → stores (some v) ≡ not (is_load v)
store₁ a_wall_lem h = absurd (false≢true (sym h))
store₁ a_load_lem h = refl
store₁ a_store h = refl

pub stores_of : (regs : List Bool) (e : Event) → is_wall (view_in regs e) ≡ false → stores (some (view_in regs e)) ≡ not (is_load (view_in regs e))
stores_of regs e h = store₁ (sees_in regs e) h

-- ---- what may be done with an event

-- at an index, and beyond the end
module _ (regs : List Bool) (s t : List Event) (ks : List ℕ) (i : ℕ) where
  pub removable_in : i < length ks → removable_at regs s t ks i
      ≡ may_remove (viewed (view_in regs)) (behind [] (trace s t ks) i) (view_in regs (event_for s t (get_or ks i 0))) (drop (suc i) (trace s t ks))
  removable_in h = rw (lt-ltb i (length ks) h)

  pub removable_past : length ks ≤ i → removable_at regs s t ks i ≡ false
  removable_past h = rw (le-ltb i (length ks) h)

module _ (regs : List Bool) (b a : List Traced) where
  abbrev may : View → Bool
  may v = may_remove (viewed (view_in regs)) b v a

  pub remove_wall : (v : View) → is_wall v ≡ true → may v ≡ false
  remove_wall wall h = refl
  remove_wall (load p v u) h = absurd (false≢true h)
  remove_wall (store p v) h = absurd (false≢true h)

  used₁ : {v : View} {p w : ℕ} {u : Bool} → Sees v p w u → is_load v ≡ true → u ≡ true → may v ≡ holds w (near (viewed (view_in regs)) p b)
  used₁ a_wall_lem h e = absurd (false≢true h)
  used₁ a_load_lem h e = rw e
  used₁ a_store h e = absurd (false≢true h)

  pub remove_used : (e : Event) → is_load (view_in regs e) ≡ true → e.order ≡ used → may (view_in regs e) ≡ holds e.first (near (viewed (view_in regs)) e.place b)
  remove_used e h q = used₁ (sees_in regs e) h (eq-eqb e.order used q)

  unused₁ : {v : View} {p w : ℕ} {u : Bool} → Sees v p w u → is_load v ≡ true → u ≡ false → may v ≡ true
  unused₁ a_wall_lem h e = absurd (false≢true h)
  unused₁ a_load_lem h e = rw e
  unused₁ a_store h e = absurd (false≢true h)

  pub remove_unused : (e : Event) → is_load (view_in regs e) ≡ true → (e.order ≡ used → ⊥) → may (view_in regs e) ≡ true
  remove_unused e h q = unused₁ (sees_in regs e) h (ne_eqb e.order used q)

  store₂ : {v : View} {p w : ℕ} {u : Bool} → Sees v p w u → is_wall v ≡ false → is_load v ≡ false
      → may v ≡ (holds w (near (viewed (view_in regs)) p b) || stores (near (viewed (view_in regs)) p a))
  store₂ a_wall_lem h e = absurd (false≢true (sym h))
  store₂ a_load_lem h e = absurd (false≢true (sym e))
  store₂ a_store h e = refl

  pub remove_store : (e : Event) → is_wall (view_in regs e) ≡ false → is_load (view_in regs e) ≡ false
      → may (view_in regs e) ≡ (holds e.first (near (viewed (view_in regs)) e.place b) || stores (near (viewed (view_in regs)) e.place a))
  remove_store e h q = store₂ (sees_in regs e) h q

-- what may be removed, by what it is seen as
pub ruleset removable = (removable_in, removable_past, remove_wall, remove_used, remove_unused, remove_store)

insert₁ : (regs : List Bool) (b : List Traced) {v : View} {p w : ℕ} {u : Bool} → Sees v p w u → is_load v ≡ true
    → may_insert (viewed (view_in regs)) b v ≡ holds w (near (viewed (view_in regs)) p b)
insert₁ regs b a_wall_lem h = absurd (false≢true h)
insert₁ regs b a_load_lem h = refl
insert₁ regs b a_store h = absurd (false≢true h)

pub insert_load : (regs : List Bool) (b : List Traced) (e : Event) → is_load (view_in regs e) ≡ true
    → may_insert (viewed (view_in regs)) b (view_in regs e) ≡ holds e.first (near (viewed (view_in regs)) e.place b)
insert_load regs b e h = insert₁ regs b (sees_in regs e) h

pub insert_other : (regs : List Bool) (b : List Traced) (v : View) → is_load v ≡ false → may_insert (viewed (view_in regs)) b v ≡ false
insert_other regs b wall h = refl
insert_other regs b (load p v u) h = absurd (false≢true (sym h))
insert_other regs b (store p v) h = refl

pub ruleset insertable = (insert_load, insert_other)
