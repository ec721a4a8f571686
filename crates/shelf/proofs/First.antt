-- Laws of the first access to a location, of the near one, and of a store to come. Assumes nothing.
use mathlib.Core.Path.{◌≡◌, refl, ◌∙◌, ap, subst}
use mathlib.Core.Logic.{◌≢◌}
use mathlib.Core.Bool.{Bool, true, false, cond, ◌||◌}
use mathlib.Core.Option
use mathlib.Core.Option.{Option, none, some}
use mathlib.Core.List.{List, [], ◌∷◌, map, head?}
use Prim.Native.Nat.{ℕ}
use lib.Dec.{T, eqb}
use borrow.Author.Tests.{eqb-true, eqb-false}
use Rattle.rules.specs.View.{View, wall, load, store}
use Rattle.rules.specs.Fault.{is_none}
use Rattle.rules.specs.Moves.{Holds, Stores, group, near, extend}
use Rattle.shelf.specs.Short.{elder, first, stored, loaded}

-- the near access to a location, by itself
abbrev pub nearest : ℕ → List View → Option View
nearest l [] = none
nearest l (wall ∷ s) = none
nearest l (load p v u ∷ s) = cond (eqb l p) (some (load p v u)) (nearest l s)
nearest l (store p v ∷ s) = cond (eqb l p) (some (store p v)) (nearest l s)

-- a test of two locations, either way
pub by_eq : (P : Bool → Type 0) (l p : ℕ) → (l ≡ p → P true) → (l ≢ p → P false) → P (eqb l p)
by_eq P l p f g = go (eqb l p) refl
  where
    go : (c : Bool) → eqb l p ≡ c → P c
    go true q = f (eqb-true l p q)
    go false q = g (eqb-false l p q)

-- of any events it is what the rules say
module _ {E : Type 0} (view : E → View) where
  pick_near : (c : Bool) (e : E) (g : List E) (o : Option View) → Option.map view (head? g) ≡ o → Option.map view (head? (cond c (e ∷ g) g)) ≡ cond c (some (view e)) o
  pick_near true e g o h = refl
  pick_near false e g o h = h

  near_one : (l : ℕ) (e : E) (s : List E) (v : View) → view e ≡ v → near view l s ≡ nearest l (map view s)
      → Option.map view (head? (extend l v e (group view l s))) ≡ nearest l (v ∷ map view s)
  near_one l e s wall i h = refl
  near_one l e s (load p v u) i h = pick_near (eqb l p) e (group view l s) (nearest l (map view s)) h ∙ ap (λ z. cond (eqb l p) (some z) (nearest l (map view s))) i
  near_one l e s (store p v) i h = pick_near (eqb l p) e (group view l s) (nearest l (map view s)) h ∙ ap (λ z. cond (eqb l p) (some z) (nearest l (map view s))) i

  pub near_view : (l : ℕ) (s : List E) → near view l s ≡ nearest l (map view s)
  near_view l [] = refl
  near_view l (e ∷ s) = near_one l e s (view e) refl (near_view l s)

-- ---- the first and the near access

-- both are there, or none is
pub data Both : Option View → Option View → Type 0 where
  neither : Both none none
  each : {v w : View} → Both (some v) (some w)

both_elder : (o : Option View) (v : View) → Both (elder o v) (some v)
both_elder none v = each
both_elder (some w) v = each

pub both : (l : ℕ) (b : List View) → Both (first l b) (nearest l b)
both l [] = neither
both l (wall ∷ b) = neither
both l (load p v u ∷ b) =
    by_eq (λ c. Both (cond c (elder (first l b) (load p v u)) (first l b)) (cond c (some (load p v u)) (nearest l b))) l p
    (λ _. both_elder (first l b) (load p v u)) (λ _. both l b)
both l (store p v ∷ b) =
    by_eq (λ c. Both (cond c (elder (first l b) (store p v)) (first l b)) (cond c (some (store p v)) (nearest l b))) l p
    (λ _. both_elder (first l b) (store p v)) (λ _. both l b)

held : {o n : Option View} (v : ℕ) → Both o n → Holds v n → is_none o ≡ false
held v neither h = absurd h
held v each h = refl

-- with a near access this is not the first
pub not_first : (l v : ℕ) (b : List View) → Holds v (nearest l b) → is_none (first l b) ≡ false
not_first l v b h = held v (both l b) h

-- a near access that is a store is one to come
pub store_near : (l : ℕ) (a : List View) → Stores (nearest l a) → T (stored l a)
store_near l [] h = absurd h
store_near l (wall ∷ a) h = absurd h
store_near l (load p v u ∷ a) h =
    by_eq (λ c. Stores (cond c (some (load p v u)) (nearest l a)) → T (stored l a)) l p (λ _ k. absurd k) (λ _ k. store_near l a k) h
store_near l (store p v ∷ a) h =
    by_eq (λ c. Stores (cond c (some (store p v)) (nearest l a)) → T (c || stored l a)) l p (λ _ _. tt) (λ _ k. store_near l a k) h

-- ---- the first access after one more

pub elder_none : (o : Option View) (v : View) → is_none (elder o v) ≡ false
elder_none none v = refl
elder_none (some w) v = refl

pub elder_some : (o : Option View) (v : View) → is_none o ≡ false → elder o v ≡ o
elder_some none v h = absurd (subst (λ c. T c) h tt)
elder_some (some w) v h = refl

-- what comes first of an access that there is, else of one to come
abbrev pub opener : Option View → Option View → Option View
opener none n = n
opener (some v) n = some v

pub opener_elder : (o n : Option View) (v : View) → opener (elder o v) n ≡ opener o (some v)
opener_elder none n v = refl
opener_elder (some w) n v = refl

pub loaded_opener : (v : ℕ) (o n : Option View) → T (loaded v o) → T (loaded v (opener o n))
loaded_opener v none n h = absurd h
loaded_opener v (some w) n h = h
