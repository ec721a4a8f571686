-- The entries make items of the source's and the target's events, and without fault 10 these match: each kept number is one of the target's
-- and is used once, and the event there is the like of the kept one. Assumes nothing.
use mathlib.Core.Path.{◌≡◌, refl, sym, ◌∙◌, ap, subst}
use mathlib.Core.Logic.{◌≢◌}
use mathlib.Core.Bool.{false, not, ◌||◌}
use mathlib.Core.List.{List, [], ◌∷◌, map}
use Prim.Native.Nat.{ℕ, zero, suc, ◌≤◌, ◌<◌, ◌+◌}
use native.Mathlib.Omega.{arith}
use lib.Dec.{T, eqb, eqb_refl}
use lib.ListN.{length, get_or}
use borrow.Author.Tests.{ne_eqb}
use Rattle.laws.proofs.Lists.{Each}
use Rattle.laws.specs.Has.{has}
use Rattle.event.specs.declared.Event.{Event}
use Rattle.event.specs.Room.{no_event}
use Rattle.rules.specs.View.{same, View}
use Rattle.rules.specs.Fault.{Item, fate, item, stays, unlike}
use Rattle.rules.specs.Verdict.{items, target_item}
use Rattle.rules.proofs.Matching.{Alike, Distinct, Lands, hit, label, matching}
use Rattle.rules.proofs.Entries.{Entries, Once, Within}
use Rattle.rules.proofs.Clean.{Faithful, target_items}
use Rattle.rules.proofs.Item.{Match, Numbered, keep, sourced}
use Rattle.rules.proofs.Truth.{no_cond, not_not, yes_cond}

short : {X : Type 0} {n : ℕ} → suc n ≡ 0 → X
short e = absurd (omega arith)

-- ---- fault 10, by number

module _ (t : List Event) where
  pub faithful_at : (s : List Event) (ns : List ℕ) → length ns ≡ length s → Faithful t s ns → (j : ℕ)
      → T (not (unlike t (get_or s j no_event) (fate (get_or ns j 0))))
  faithful_at [] [] l f j = tt
  faithful_at [] (n ∷ ns) l f j = short l
  faithful_at (e ∷ s) [] l f j = short (sym l)
  faithful_at (e ∷ s) (n ∷ ns) l f zero = f.0
  faithful_at (e ∷ s) (n ∷ ns) l f (suc j) = faithful_at s ns (omega arith) f.1 j

  pub at_faithful : (s : List Event) (ns : List ℕ) → ((j : ℕ) → T (not (unlike t (get_or s j no_event) (fate (get_or ns j 0))))) → Faithful t s ns
  at_faithful [] ns f = tt
  at_faithful (e ∷ s) [] f = tt
  at_faithful (e ∷ s) (n ∷ ns) f = (f 0, at_faithful s ns (λ j. f (suc j)))

module _ (view : Event → View) where
  -- ---- the source

  pub hit_items : (j : ℕ) (s : List Event) (ns : List ℕ) → j ≢ 0 → length ns ≡ length s → hit j (items view s ns) ≡ has j ns
  hit_items j [] [] ne l = refl
  hit_items j [] (n ∷ ns) ne l = short l
  hit_items j (e ∷ s) [] ne l = short (sym l)
  hit_items j (e ∷ s) (zero ∷ ns) ne l = hit_items j s ns ne (omega arith) ∙ ap (λ c. c || has j ns) (sym (ne_eqb j 0 ne))
  hit_items j (e ∷ s) (suc n ∷ ns) ne l = ap (λ c. eqb j (suc n) || c) (hit_items j s ns ne (omega arith))

  pub distinct_items : (s : List Event) (ns : List ℕ) → length ns ≡ length s → Once ns → Distinct (items view s ns)
  distinct_items [] ns l o = tt
  distinct_items (e ∷ s) [] l o = tt
  distinct_items (e ∷ s) (zero ∷ ns) l o = (tt, distinct_items s ns (omega arith) o.1)
  distinct_items (e ∷ s) (suc n ∷ ns) l o =
      (rw (hit_items (suc n) s ns (λ z. short z) (omega arith)) (o.0 (λ z. short z)), distinct_items s ns (omega arith) o.1)

  -- ---- the target

  pub label_targets : (x : List Item) (ns : List ℕ) (k : ℕ) (t : List Event) → ((j : ℕ) → k ≤ j → hit j x ≡ has j ns)
      → label x k (map view t) ≡ target_items view ns k t
  label_targets x ns k [] h = refl
  label_targets x ns k (e ∷ t) h =
      rw (h k (omega arith)) (ap (λ r. target_item view ns k e ∷ r) (label_targets x ns (suc k) t (λ j i. h j (omega arith))))

  pub numbered_targets : (ns : List ℕ) (k : ℕ) (t : List Event) → Numbered k (target_items view ns k t)
  numbered_targets ns k [] = tt
  numbered_targets ns k (e ∷ t) = (refl, numbered_targets ns (suc k) t)

  -- ---- both

  module _ (alike : (e f : Event) → T (same e f) → Alike (view e) (view f)) (t : List Event) where
    lands : (v : View) (n k j : ℕ) (r : List Event) → n ≡ k + j → j < length r → Alike v (view (get_or r j no_event))
        → Lands k (map view r) (item v (stays false n))
    lands v n k j [] e h a = absurd (omega arith)
    lands v n k zero (f ∷ r) e h a =
        let i : k ≡ n = omega arith in
        yes_cond (Alike v (view f)) (Lands (suc k) (map view r) (item v (stays false n))) (eqb k n) (subst (λ z. T (eqb k z)) i (eqb_refl k)) a
    lands v n k (suc j) (f ∷ r) e h a =
        no_cond (Alike v (view f)) (Lands (suc k) (map view r) (item v (stays false n))) (eqb k n) (ne_eqb k n (λ i. omega arith))
        (lands v n (suc k) j r (omega arith) (omega arith) a)

    lands_items : (s : List Event) (ns : List ℕ) → Faithful t s ns → Within (length t) ns → Each (Lands 1 (map view t)) (items view s ns)
    lands_items [] ns f w = tt
    lands_items (e ∷ s) [] f w = tt
    lands_items (e ∷ s) (zero ∷ ns) f w = (tt, lands_items s ns f.1 w.1)
    lands_items (e ∷ s) (suc n ∷ ns) f w =
        let i : suc n ≤ length t = w.0 (λ z. short z) in (
          lands (view e) (suc n) 1 n t (omega arith) (omega arith)
              (alike e (get_or t n no_event) (not_not (same e (get_or t n no_event)) f.0)),
          lands_items s ns f.1 w.1,
        )

    pub paired : (s : List Event) (ns : List ℕ) → Entries (length t) s ns → Faithful t s ns → Match (keep (items view s ns)) (sourced (target_items view ns 1 t))
    paired s ns i f =
        let x = items view s ns in
        let e : label x 1 (map view t) ≡ target_items view ns 1 t =
        label_targets x ns 1 t (λ j h. hit_items j s ns (λ z. omega arith) i.many) in
        rw e at (matching x (map view t) (distinct_items s ns i.many i.used_once) (lands_items s ns f i.within_n))
