-- A source whose items say where they go, and a target that has their like there: the items that the source and the target share. The target's
-- events are taken upward; the one item that stays at a number is pulled out of the source. Assumes nothing.
use mathlib.Core.Path.{◌≡◌, refl, sym, ◌∙◌, ap}
use mathlib.Core.Logic.{◌≢◌}
use mathlib.Core.Bool.{Bool, true, false, not, cond, ◌||◌}
use mathlib.Core.List.{List, [], ◌∷◌}
use Prim.Native.Nat.{ℕ, suc, ◌≤◌}
use native.Mathlib.Omega.{arith}
use lib.Dec.{T, eqb}
use borrow.Author.Tests.{ne_eqb, eqb-true, eqb-false}
use Rattle.laws.proofs.Lists.{Each}
use Rattle.rules.specs.Fault.{Item, gone, item, stays}
use Rattle.rules.specs.View.{View, load}
use Rattle.rules.proofs.Item.{none_left, pick, unchanged, Like, Match, Pull, here, keep, marks, sourced, there}

-- the same but for the mark of a load
pub data Alike : View → View → Type 0 where
  equal : {v : View} → Alike v v
  marked : {p v : ℕ} {u u' : Bool} → Alike (load p v u) (load p v u')

-- some item stays at the number k
abbrev pub hit : ℕ → List Item → Bool
hit k [] = false
hit k (item v gone ∷ s) = hit k s
hit k (item v (stays w n) ∷ s) = eqb k n || hit k s

-- the target's events as items: each at its number, new if no item of the source stays there
abbrev pub label : List Item → ℕ → List View → List Item
label s k [] = []
label s k (v ∷ t) = item v (stays (not (hit k s)) k) ∷ label s (suc k) t

-- an item of the source is gone, or stays where its like is, in the target from the number k
abbrev pub Lands : ℕ → List View → Item → Type 0
Lands k t (item v gone) = Unit {0}
Lands k t (item v (stays true n)) = ⊥
Lands k [] (item v (stays false n)) = ⊥
Lands k (u ∷ t) (item v (stays false n)) = cond (eqb k n) (Alike v u) (Lands (suc k) t (item v (stays false n)))

-- no two items stay at one number
abbrev pub Distinct₁ : Item → List Item → Type 0
Distinct₁ (item v gone) s = Unit {0}
Distinct₁ (item v (stays w n)) s = T (not (hit n s))

abbrev pub Distinct : List Item → Type 0
Distinct [] = Unit {0}
Distinct (e ∷ s) = Distinct₁ e s × Distinct s

-- ---- what is kept

abbrev Landed : ℕ → List View → Item → Type 0
Landed k t (item v gone) = ⊥
Landed k t (item v (stays w n)) = Lands k t (item v (stays w n))

landed_keep : (k : ℕ) (t : List View) (s : List Item) → Each (Lands k t) s → Each (Landed k t) (keep s)
landed_keep k t [] h = tt
landed_keep k t (item v gone ∷ s) h = landed_keep k t s h.1
landed_keep k t (item v (stays w n) ∷ s) h = (h.0, landed_keep k t s h.1)

hit_keep : (k : ℕ) (s : List Item) → hit k (keep s) ≡ hit k s
hit_keep k [] = refl
hit_keep k (item v gone ∷ s) = hit_keep k s
hit_keep k (item v (stays w n) ∷ s) = ap (λ c. eqb k n || c) (hit_keep k s)

distinct_keep : (s : List Item) → Distinct s → Distinct (keep s)
distinct_keep [] d = tt
distinct_keep (item v gone ∷ s) d = distinct_keep s d.1
distinct_keep (item v (stays w n) ∷ s) d = (rw (hit_keep n s) d.0, distinct_keep s d.1)

label_same : (s x : List Item) (k : ℕ) (t : List View) → ((j : ℕ) → k ≤ j → hit j s ≡ hit j x) → label s k t ≡ label x k t
label_same s x k [] h = refl
label_same s x k (v ∷ t) h =
    rw (h k (omega arith)) (ap (λ r. item v (stays (not (hit k x)) k) ∷ r) (label_same s x (suc k) t (λ j i. h j (omega arith))))

-- ---- one target event

missed₁ : (k : ℕ) (u : View) (t : List View) (e : Item) (x : List Item) → T (not (hit k (e ∷ x))) → Landed k (u ∷ t) e
    → Landed (suc k) t e × T (not (hit k x))
missed₁ k u t (item v gone) x m h = absurd h
missed₁ k u t (item v (stays true n)) x m h = absurd h
missed₁ k u t (item v (stays false n)) x m h = go (eqb k n) m h
  where
    go : (c : Bool) → T (not (c || hit k x)) → cond c (Alike v u) (Lands (suc k) t (item v (stays false n)))
        → Lands (suc k) t (item v (stays false n)) × T (not (hit k x))
    go true m h = absurd m
    go false m h = (h, m)

missed : (k : ℕ) (u : View) (t : List View) (x : List Item) → T (not (hit k x)) → Each (Landed k (u ∷ t)) x → Each (Landed (suc k) t) x
missed k u t [] m h = tt
missed k u t (e ∷ x) m h = let r = missed₁ k u t e x m h.0 in (r.0, missed k u t x r.1 h.1)

record Taken (k : ℕ) (u : View) (t : List View) (x : List Item) : Type 0 where
  chosen : Item
  rest : List Item
  pulled : Pull chosen x rest
  alike : Like chosen (item u (stays false k))
  landed : Each (Landed (suc k) t) rest
  distinct : Distinct rest
  hits : (j : ℕ) → k ≢ j → hit j x ≡ hit j rest

pub like_of : {v u : View} {w : Bool} {n k : ℕ} → n ≡ k → Alike v u → Like (item v (stays w n)) (item u (stays w k))
like_of i equal = rw i unchanged
like_of i marked = rw i marks

take : (k : ℕ) (u : View) (t : List View) (x : List Item) → T (hit k x) → Distinct x → Each (Landed k (u ∷ t)) x → Taken k u t x
take k u t [] m d h = absurd m
take k u t (item v gone ∷ x) m d h = absurd h.0
take k u t (item v (stays true n) ∷ x) m d h = absurd h.0
take k u t (item v (stays false n) ∷ x) m d h = go (eqb k n) refl m h.0 (λ i. take k u t x i d.1 h.1)
  where
    go : (c : Bool) → eqb k n ≡ c → T (c || hit k x) → cond c (Alike v u) (Lands (suc k) t (item v (stays false n)))
        → (T (hit k x) → Taken k u t x) → Taken k u t (item v (stays false n) ∷ x)
    go true q m a ih =
        let i : n ≡ k = sym (eqb-true k n q) in
        record {
          chosen = item v (stays false n);
          rest = x;
          pulled = here;
          alike = like_of i a;
          landed = missed k u t x (rw (← i) d.0) h.1;
          distinct = d.1;
          hits = λ j f. ap (λ c. c || hit j x) (ne_eqb j n (λ e. f (sym (e ∙ i))));
        }
    go false q m a ih =
        let r : Taken k u t x = ih m in
        record {
          chosen = r.chosen;
          rest = item v (stays false n) ∷ r.rest;
          pulled = there r.pulled;
          alike = r.alike;
          landed = (a, r.landed);
          distinct = (rw (← r.hits n (eqb-false k n q)) d.0, r.distinct);
          hits = λ j f. ap (λ c. eqb j n || c) (r.hits j f);
        }

-- ---- all of them

match : (k : ℕ) (t : List View) (x : List Item) → Distinct x → Each (Landed k t) x → Match x (sourced (label x k t))
match k [] [] d h = none_left
match k [] (item v gone ∷ x) d h = absurd h.0
match k [] (item v (stays true n) ∷ x) d h = absurd h.0
match k [] (item v (stays false n) ∷ x) d h = absurd h.0
match k (u ∷ t) x d h = go (hit k x) refl (λ y. match (suc k) t y)
  where
    go : (c : Bool) → hit k x ≡ c → ((y : List Item) → Distinct y → Each (Landed (suc k) t) y → Match y (sourced (label y (suc k) t)))
        → Match x (sourced (item u (stays (not c) k) ∷ label x (suc k) t))
    go false q ih = ih x d (missed k u t x (rw q tt) h)
    go true q ih =
        let r : Taken k u t x = take k u t x (rw q tt) d h in
        let g : Match r.rest (sourced (label x (suc k) t)) =
        rw (label_same x r.rest (suc k) t (λ j i. r.hits j (omega arith))) (ih r.rest r.distinct r.landed) in
        pick r.pulled r.alike g

pub matching : (s : List Item) (t : List View) → Distinct s → Each (Lands 1 t) s → Match (keep s) (sourced (label s 1 t))
matching s t d h = rw (← label_same (keep s) s 1 t (λ j _. hit_keep j s)) (match 1 t (keep s) (distinct_keep s d) (landed_keep 1 t s h))
