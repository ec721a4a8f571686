-- Two lists of events, related one by one, each with its rules: where the rules of the first allow what those of the second do, a run of the
-- second is a run of the first. Document 01's rules do so if the related look the same, since near accesses are found by views alone.
-- Assumes nothing.
use mathlib.Core.Path.{◌≡◌, refl, ap, ap₂}
use mathlib.Core.Logic.{◌⊎◌, ◌↔◌}
use mathlib.Core.Bool.{Bool, true, false, cond}
use mathlib.Core.Option.{some, map}
use mathlib.Core.List.{List, [], ◌∷◌, head?}
use Prim.Native.Nat.{ℕ}
use lib.Dec.{eqb}
use Rattle.rules.specs.Moves.{group, near, Holds, Stores, Removable, Insertable, Rules, rules, Move, Moves, Run, extend, Phase, remove, insert, swap}
use Rattle.rules.specs.Moves.{next, done, step}
use Rattle.rules.specs.View.{View, wall, load, store}

pub data Over {E F : Type 0} (R : E → F → Type 0) : List E → List F → Type 0 where
  over_nil : Over R [] []
  over_cons : {x : E} {y : F} {s : List E} {t : List F} → R x y → Over R s t → Over R (x ∷ s) (y ∷ t)

-- the rules of the first allow what those of the second do; what is inserted needs a counterpart
pub record Allows {E F : Type 0} (R : E → F → Type 0) (mayE : Rules E) (mayF : Rules F) (Has : F → Type 0) : Type 0 where
  pub removes : (x : E) (y : F) → R x y → {b a : List E} {b' a' : List F} → Over R b b' → Over R a a' → mayE.Removes b x a ↔ mayF.Removes b' y a'
  pub inserts : (y : F) → Has y → {b : List E} {b' : List F} → Over R b b' → mayF.Inserts b' y → (x : E) × mayE.Inserts b x × R x y
  pub swaps : (x z : E) (y w : F) → R x y → R z w → mayF.Swaps y w → mayE.Swaps x z

-- ---- runs

module _ {E F : Type 0} {R : E → F → Type 0} {mayE : Rules E} {mayF : Rules F} {Has : F → Type 0} (allows : Allows R mayE mayF Has)
    (has : (y : F) → Has y) where
  move_over : {φ : Phase} {b' s' t' : List F} {b s : List E} → Move mayF φ b' s' t' → Over R b b' → Over R s s'
      → (t : List E) × Move mayE φ b s t × Over R t t'
  move_over (remove {e = y} r) o (over_cons {x = x} {s = s} q p) = (s, remove ((allows.removes x y q o p).1 r), p)
  move_over {s = s} (insert {e = y} i) o p = let n = allows.inserts y (has y) o i in (n.0 ∷ s, insert n.1, over_cons n.2 p)
  move_over (swap {e = y} {f = w} d) o (over_cons {x = x} q (over_cons {x = z} {s = s} r p)) =
      (z ∷ x ∷ s, swap (allows.swaps x z y w q r d), over_cons r (over_cons q p))
  move_over (next m) o (over_cons {x = x} q p) = let n = move_over m (over_cons q o) p in (x ∷ n.0, next n.1, over_cons q n.2)

  moves_over : {φ : Phase} {s' t' : List F} {s : List E} → Moves mayF φ [] s' t' → Over R s s' → (t : List E) × Moves mayE φ [] s t × Over R t t'
  moves_over {s = s} done o = (s, done, o)
  moves_over (step m r) o =
      let n = move_over m over_nil o in
      let q = moves_over r n.2 in
      (q.0, step n.1 q.1, q.2)

  pub run_over : {s' t' : List F} {s : List E} → Run mayF s' t' → Over R s s' → (t : List E) × Run mayE s t × Over R t t'
  run_over r o =
      let p = moves_over r.1 o in
      let q = moves_over r.2 p.2 in
      (q.0, (p.0, p.1, q.1), q.2)

-- ---- document 01's rules

-- what a new event needs of the other side
abbrev pub Has : {E F : Type 0} → (E → F → Type 0) → (E → Type 0) → (F → Type 0) → F → Type 0
Has {E} R newE newF y = newF y → (x : E) × newE x × R x y

module _ {E F : Type 0} (R : E → F → Type 0) (viewE : E → View) (viewF : F → View) (look : (x : E) (y : F) → R x y → viewE x ≡ viewF y) where
  join : (c : Bool) {x : E} {y : F} {g : List E} {h : List F} → R x y → Over R g h → Over R (cond c (x ∷ g) g) (cond c (y ∷ h) h)
  join true r o = over_cons r o
  join false r o = o

  extended : (l : ℕ) (v : View) {x : E} {y : F} {g : List E} {h : List F} → R x y → Over R g h → Over R (extend l v x g) (extend l v y h)
  extended l wall r o = over_nil
  extended l (load p v u) r o = join (eqb l p) r o
  extended l (store p v) r o = join (eqb l p) r o

  grouped : (l : ℕ) {s : List E} {t : List F} → Over R s t → Over R (group viewE l s) (group viewF l t)
  grouped l over_nil = over_nil
  grouped l (over_cons {x = x} {y = y} r o) = rw (look x y r) (extended l (viewF y) r (grouped l o))

  headed : {g : List E} {h : List F} → Over R g h → map viewE (head? g) ≡ map viewF (head? h)
  headed over_nil = refl
  headed (over_cons {x = x} {y = y} r o) = ap some (look x y r)

  near_over : (l : ℕ) {s : List E} {t : List F} → Over R s t → near viewE l s ≡ near viewF l t
  near_over l o = headed (grouped l o)

  removable : (v : View) {b a : List E} {b' a' : List F} → Over R b b' → Over R a a' → Removable viewE b v a ≡ Removable viewF b' v a'
  removable wall o q = refl
  removable (load p v true) o q = ap (Holds v) (near_over p o)
  removable (load p v false) o q = refl
  removable (store p v) o q = ap₂ (λ x y. Holds v x ⊎ Stores y) (near_over p o) (near_over p q)

  insertable : (v : View) {b : List E} {b' : List F} → Over R b b' → Insertable viewE b v ≡ Insertable viewF b' v
  insertable wall o = refl
  insertable (load p v u) o = ap (Holds v) (near_over p o)
  insertable (store p v) o = refl

  module _ (newE : E → Type 0) (newF : F → Type 0) where
    pub by_views : Allows R (rules viewE newE) (rules viewF newF) (Has R newE newF)
    by_views = record {
      removes = λ x y q o p. (λ r. rw (look x y q, removable (viewF y) o p) at r, λ r. rw (look x y q, removable (viewF y) o p) r);
      inserts = λ y h o i. let n = h i.0 in (n.0, (n.1, rw (look n.0 y n.2, insertable (viewF y) o) i.1), n.2);
      swaps = λ x z y w q r d. rw (look x y q, look z w r) d;
    }
