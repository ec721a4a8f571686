-- Where a target event comes from, by the entries: the one source event that is kept there, or it is new. So an event's origin and an entry's
-- fate say the same. Assumes nothing.
use mathlib.Core.Path.{◌≡◌, refl, sym, ◌∙◌, ap, subst}
use mathlib.Core.Logic.{◌≢◌}
use mathlib.Core.Bool.{Bool, true, false, not, cond, ◌||◌}
use mathlib.Core.List.{List, [], ◌∷◌}
use Prim.Native.Nat.{ℕ, zero, suc, ◌+◌}
use native.Mathlib.Omega.{arith}
use lib.Dec.{T, eqb, eqb_refl, T_not}
use lib.ListN.{get_or}
use borrow.Author.Tests.{eqb-true}
use Rattle.laws.specs.Has.{has}
use Rattle.rules.specs.Run.{Tag, old, new, origin}
use Rattle.rules.specs.Fault.{Fate, fate, nth, stays}
use Rattle.rules.proofs.Entries.{From, Once, from_here, from_next}
use Rattle.rules.proofs.Truth.{or_left, or_right, taken}

-- the fate of an event of a tag
abbrev pub fates : List ℕ → Tag → Fate
fates ns (old i) = fate (nth 0 ns i)
fates ns (new n) = stays true n

pub fate_at : (n : ℕ) (w : Bool) (k : ℕ) → fate n ≡ stays w k → n ≡ k
fate_at zero w k e = let z : ◌≡◌ {A = ℕ} 0 1 = cc in absurd (omega arith)
fate_at (suc n) w k e = cc

-- none is kept there
pub origin_new : (k i : ℕ) (ns : List ℕ) → has k ns ≡ false → origin k i ns ≡ new k
origin_new k i [] h = refl
origin_new k i (n ∷ ns) h = go (eqb k n) h (origin_new k (suc i) ns)
  where
    go : (c : Bool) → (c || has k ns) ≡ false → (has k ns ≡ false → origin k (suc i) ns ≡ new k) → cond c (old i) (origin k (suc i) ns) ≡ new k
    go true h ih = cc
    go false h ih = ih h

kept_has : (k : ℕ) (ns : List ℕ) → k ≢ 0 → (j : ℕ) → get_or ns j 0 ≡ k → T (has k ns)
kept_has k [] ne j h = absurd (ne (sym h))
kept_has k (n ∷ ns) ne zero h = or_left (eqb k n) (has k ns) (subst (λ z. T (eqb k z)) (sym h) (eqb_refl k))
kept_has k (n ∷ ns) ne (suc j) h = or_right (eqb k n) (has k ns) (kept_has k ns ne j h)

-- one is kept there, and none after it
pub origin_old : (k i : ℕ) (ns : List ℕ) → k ≢ 0 → Once ns → (j m : ℕ) → m ≡ i + j → get_or ns j 0 ≡ k → origin k i ns ≡ old m
origin_old k i [] ne o j m e h = absurd (ne (sym h))
origin_old k i (n ∷ ns) ne o zero m e h =
    let q : T (eqb k n) = subst (λ z. T (eqb k z)) (sym h) (eqb_refl k) in
    taken (old i) (origin k (suc i) ns) (eqb k n) q ∙ ap old (sym (omega arith))
origin_old k i (n ∷ ns) ne o (suc j) m e h = go (eqb k n) refl (origin_old k (suc i) ns ne o.1 j m (omega arith) h)
  where
    go : (c : Bool) → eqb k n ≡ c → origin k (suc i) ns ≡ old m → cond c (old i) (origin k (suc i) ns) ≡ old m
    go true q ih = let r : k ≡ n = eqb-true k n q in absurd (T_not (has n ns) (o.0 (λ z. ne (r ∙ z))) (rw r at (kept_has k ns ne j h)))
    go false q ih = ih

-- the fate that the entries give a target event
pub origin_fate : (ks : List ℕ) (k i : ℕ) (ns : List ℕ) → From 0 ks i ns → fates ks (origin (suc k) (suc i) ns) ≡ stays (not (has (suc k) ns)) (suc k)
origin_fate ks k i [] f = refl
origin_fate ks k i (n ∷ ns) f = go (eqb (suc k) n) refl (origin_fate ks k (suc i) ns (from_next 0 ks i n ns f))
  where
    go : (c : Bool) → eqb (suc k) n ≡ c → fates ks (origin (suc k) (suc (suc i)) ns) ≡ stays (not (has (suc k) ns)) (suc k)
        → fates ks (cond c (old (suc i)) (origin (suc k) (suc (suc i)) ns)) ≡ stays (not (c || has (suc k) ns)) (suc k)
    go true q ih = ap fate (from_here 0 ks i n ns f ∙ sym (eqb-true (suc k) n q))
    go false q ih = ih
