-- What one pass over arrays of 256 cells has to keep. Each fault looks at a fold over the events passed: a wall begins it anew, and a plain event
-- changes it at its own location. Fault 12 goes by greatest numbers: an earlier kept event with a greater number stands against a wall
-- anyhow, and against a plain event if it is a wall or has the same location. Assumes nothing.
use mathlib.Core.Path.{◌≡◌, refl, ◌∙◌, sym, ap}
use mathlib.Core.Bool.{Bool, true, false, cond, ◌&&◌, ◌||◌, not, false≢true}
use mathlib.Core.Option.{Option, some, map}
use mathlib.Core.List.{List, [], ◌∷◌, head?}
use Prim.Native.Nat.{ℕ, zero, suc}
use native.Mathlib.Omega.{arith}
use lib.Dec.{leb-suc-zero, eqb, ltb}
use borrow.Author.Tests.{eq-eqb, eqb-true, eqb-false, ltb-true, ltb-false, ne_eqb}
use Rattle.laws.proofs.Cases.{cases, either}
use Rattle.rules.specs.Fault.{Fate, gone, fate, group, near, Item, closing, crossed, is_none, item, stays, view_of, witness}
use Rattle.rules.specs.View.{load, store, wall, View, apart, place_of, is_load, is_wall}
use Rattle.fates.specs.Pass.{closing_after, larger, takes_over, top_after}
use Rattle.sight.proofs.Sight.{Sees, a_load_lem, a_store, a_wall_lem}

-- ---- a wall, and a plain event of a location and a value

pub walled : (v : View) → is_wall v ≡ true → v ≡ wall
walled wall h = refl
walled (load p v u) h = absurd (false≢true h)
walled (store p v) h = absurd (false≢true h)

pub data PlainAt : View → ℕ → ℕ → Type 0 where
  plain_load : {p x : ℕ} {u : Bool} → PlainAt (load p x u) p x
  plain_store : {p x : ℕ} → PlainAt (store p x) p x

pub plain : {v : View} {p x : ℕ} {u : Bool} → Sees v p x u → is_wall v ≡ false → PlainAt v p x
plain a_wall_lem h = absurd (false≢true (sym h))
plain a_load_lem h = plain_load
plain a_store h = plain_store

-- ---- folds over the accesses to a location: no near access, closing, the witness

chosen : {A B : Type 0} (F : A → B) (c : Bool) (x y : A) → F (cond c x y) ≡ cond c (F x) (F y)
chosen F true x y = refl
chosen F false x y = refl

grouped : {A : Type 0} {v : View} {p x : ℕ} (F : List Item → A) → PlainAt v p x → (f : Fate) (b : List Item) (l : ℕ)
    → F (group l (item v f ∷ b)) ≡ cond (eqb l p) (F (item v f ∷ group l b)) (F (group l b))
grouped F (plain_load {p} {x} {u}) f b l = chosen F (eqb l p) (item (load p x u) f ∷ group l b) (group l b)
grouped F (plain_store {p} {x}) f b l = chosen F (eqb l p) (item (store p x) f ∷ group l b) (group l b)

pub none_at : {v : View} {p x : ℕ} → PlainAt v p x → (f : Fate) (b : List Item) (l : ℕ)
    → is_none (near l (item v f ∷ b)) ≡ cond (eqb l p) false (is_none (near l b))
none_at w f b l = grouped (λ g. is_none (map view_of (head? g))) w f b l

closing_first : {v : View} {p x : ℕ} → PlainAt v p x → (n : ℕ) (g : List Item) → closing (item v (fate n) ∷ g) ≡ closing_after (is_load v) n (closing g)
closing_first plain_load zero g = refl
closing_first plain_load (suc n) g = refl
closing_first plain_store n g = refl

pub closing_at_lem : {v : View} {p x : ℕ} → PlainAt v p x → (n : ℕ) (a : List Item) (l : ℕ)
    → closing (group l (item v (fate n) ∷ a)) ≡ cond (eqb l p) (closing_after (is_load v) n (closing (group l a))) (closing (group l a))
closing_at_lem {p = p} w n a l =
    grouped closing w (fate n) a l ∙ ap (λ c. cond (eqb l p) c (closing (group l a))) (closing_first w n (group l a))

witness_first : {v : View} {p x : ℕ} → PlainAt v p x → (n : ℕ) (g : List Item)
    → witness (item v (fate n) ∷ g) ≡ cond (takes_over (is_load v) n (is_none (map view_of (head? g)))) (some x) (witness g)
witness_first plain_load zero [] = refl
witness_first plain_load zero (y ∷ g) = refl
witness_first plain_load (suc n) g = refl
witness_first plain_store zero [] = refl
witness_first plain_store zero (y ∷ g) = refl
witness_first plain_store (suc n) g = refl

pub witness_at_lem : {v : View} {p x : ℕ} → PlainAt v p x → (n : ℕ) (b : List Item) (l : ℕ)
    → witness (group l (item v (fate n) ∷ b))
    ≡ cond (eqb l p) (cond (takes_over (is_load v) n (is_none (near l b))) (some x) (witness (group l b))) (witness (group l b))
witness_at_lem {p = p} w n b l =
    grouped witness w (fate n) b l ∙ ap (λ (o : Option ℕ). cond (eqb l p) o (witness (group l b))) (witness_first w n (group l b))

-- ---- the greatest number of the kept events that pass a test

abbrev pub top_by : (View → Bool) → List Item → ℕ
top_by test [] = 0
top_by test (item v gone ∷ b) = top_by test b
top_by test (item v (stays w n) ∷ b) = cond (test v) (larger n (top_by test b)) (top_by test b)

-- a choice between one and the same
pub either_way : {A : Type 0} (c : Bool) (d : A) → d ≡ cond c d d
either_way true d = refl
either_way false d = refl

pub top_next : (test : View → Bool) (v : View) (n : ℕ) (b : List Item)
    → top_by test (item v (fate n) ∷ b) ≡ cond (test v) (top_after n (top_by test b)) (top_by test b)
top_next test v zero b = either_way (test v) (top_by test b)
top_next test v (suc n) b = refl

-- all, and those at a location
abbrev pub any : View → Bool
any v = true

abbrev pub is_at : ℕ → View → Bool
is_at l wall = false
is_at l (load p v u) = eqb l p
is_at l (store p v) = eqb l p

pub at_plain : {v : View} {p x : ℕ} → PlainAt v p x → (l : ℕ) → is_at l v ≡ eqb l p
at_plain plain_load l = refl
at_plain plain_store l = refl

-- ---- fault 12

ltb_larger : (k n g : ℕ) → ltb k (larger n g) ≡ (ltb k n || ltb k g)
ltb_larger k n g = go (ltb g n) refl (ltb k n) refl (ltb k g) refl
  where
    go : (c : Bool) → ltb g n ≡ c → (d : Bool) → ltb k n ≡ d → (e : Bool) → ltb k g ≡ e → ltb k (cond c n g) ≡ (d || e)
    go true q true r e s = r
    go true q false r true s = let x = ltb-true g n q in let y = ltb-false k n r in let z = ltb-true k g s in absurd (omega arith)
    go true q false r false s = r
    go false q true r true s = s
    go false q true r false s = let x = ltb-false g n q in let y = ltb-true k n r in let z = ltb-false k g s in absurd (omega arith)
    go false q false r e s = s

below_zero : (k : ℕ) → false ≡ ltb k 0
below_zero k = sym (leb-suc-zero k)

-- a gone event crosses nothing
pub crossed_gone : (b : List Item) (v : View) → crossed b (item v gone) ≡ false
crossed_gone [] v = refl
crossed_gone (item x gone ∷ b) v = crossed_gone b v
crossed_gone (item x (stays y n) ∷ b) v = crossed_gone b v

-- against a wall: the greatest of all
with_wall : (v : View) → apart v wall ≡ false
with_wall wall = refl
with_wall (load p v u) = refl
with_wall (store p v) = refl

pub crossed_wall : (b : List Item) (w : Bool) (k : ℕ) → crossed b (item wall (stays w k)) ≡ ltb k (top_by any b)
crossed_wall [] w k = below_zero k
crossed_wall (item v gone ∷ b) w k = crossed_wall b w k
crossed_wall (item v (stays y n) ∷ b) w k = rw (with_wall v, crossed_wall b w k, ltb_larger) (go (ltb k n) (ltb k (top_by any b)))
  where
    go : (l a : Bool) → ((l && true) || a) ≡ (l || a)
    go true a = refl
    go false a = refl

-- against a plain event: the greatest of the walls and of those at its location
against : (l d a : Bool) → ((l && true) || (d || a)) ≡ ((l || d) || a)
against true d a = refl
against false d a = refl

eqb_sym : (p l : ℕ) → eqb p l ≡ eqb l p
eqb_sym p l = cases (either (eqb l p)) (λ e. eq-eqb p l (sym (eqb-true l p e)) ∙ sym e) (λ e. ne_eqb p l (λ z. eqb-false l p e (sym z)) ∙ sym e)

place_of_lem : {v : View} {p x : ℕ} → PlainAt v p x → place_of v ≡ some p
place_of_lem plain_load = refl
place_of_lem plain_store = refl

crossed_next : (c : Bool) (k n d a : ℕ) → ((ltb k n && not (not c)) || (ltb k d || ltb k a)) ≡ (ltb k d || ltb k (cond c (larger n a) a))
crossed_next true k n d a = rw ltb_larger (beside (ltb k n) (ltb k d) (ltb k a))
  where
    beside : (l d a : Bool) → ((l && true) || (d || a)) ≡ (d || (l || a))
    beside true true a = refl
    beside true false a = refl
    beside false d a = refl
crossed_next false k n d a = away (ltb k n) (ltb k d) (ltb k a)
  where
    away : (l d a : Bool) → ((l && false) || (d || a)) ≡ (d || a)
    away true d a = refl
    away false d a = refl

pub crossed_plain : {v : View} {p x : ℕ} → PlainAt v p x → (b : List Item) (w : Bool) (k : ℕ)
    → crossed b (item v (stays w k)) ≡ (ltb k (top_by is_wall b) || ltb k (top_by (is_at p) b))
crossed_plain h [] w k = rw (← below_zero k)
crossed_plain h (item x gone ∷ b) w k = crossed_plain h b w k
crossed_plain {p = p} h (item wall (stays y n) ∷ b) w k =
    rw (crossed_plain h b w k, ltb_larger) (against (ltb k n) (ltb k (top_by is_wall b)) (ltb k (top_by (is_at p) b)))
crossed_plain {p = p} h (item (load q x u) (stays y n) ∷ b) w k =
    rw (place_of_lem h, eqb_sym q p, crossed_plain h b w k) (crossed_next (eqb p q) k n (top_by is_wall b) (top_by (is_at p) b))
crossed_plain {p = p} h (item (store q x) (stays y n) ∷ b) w k =
    rw (place_of_lem h, eqb_sym q p, crossed_plain h b w k) (crossed_next (eqb p q) k n (top_by is_wall b) (top_by (is_at p) b))
