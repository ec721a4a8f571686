-- The swaps of the fixed order are the next steps, where nothing is gone. Assumes nothing.
use mathlib.Core.Path.{◌≡◌, refl, ◌∙◌, ap}
use mathlib.Core.Option.{some}
use mathlib.Core.List.{List, [], ◌∷◌}
use Prim.Native.Nat.{ℕ, zero, suc, ◌+◌}
use native.Mathlib.Omega.{arith}
use lib.ListN.{length}
use Rattle.laws.proofs.Lists.{Each}
use Rattle.event.specs.declared.Event.{Event}
use Rattle.rules.specs.View.{View}
use Rattle.rules.specs.Run.{Traced, tag_of, viewed, changes}
use Rattle.rules.proofs.Fixed.{Low, Lows, low, after, calm, again, Orderly}
use Rattle.rules.proofs.FixedRun.{orderly_low}
use Rattle.rules.proofs.Sorting.{above_asym}
use Rattle.rules.proofs.Traced.{Leaves, Overtakes, image}
use Rattle.rules.proofs.Truth.{T_true}
use Rattle.changes.specs.Allowed.{may_swap}
use Rattle.changes.specs.Change.{swapped, applied, under, at}
use Rattle.changes.proofs.May.{not_so}
use Rattle.course.specs.Step.{overtakes, against, next_step, Replays, stepped}
use Rattle.course.proofs.Tags.{if_overtakes, Stands, none_gone}
use Rattle.course.proofs.Counts.{total, below, inverted}

module _ (view : Event → View) (s t : List Event) (ns : List ℕ) where
  record Found (b u v : List Traced) : Type 0 where
    place : ℕ
    found : against ns u ≡ some place
    moved : at place (swapped view) b u ≡ some v

  find : {u v : List Traced} (b : List Traced) → Low (Overtakes view s t ns) u v → Orderly (changes view) (Overtakes view s t ns) u → Found b u v
  find b (low {e = x} {f = y} h) o = record {
    place = zero;
    found = rw (T_true (overtakes ns (tag_of x) (tag_of y)) ((if_overtakes view s t ns x y).1 h));
    moved = rw (T_true (may_swap (viewed view) x y) (o.0.0 h));
  }
  find b (after {e = x} {f = y} h q) o =
      let r = find (x ∷ b) q o.1 in
      record {
        place = suc r.place;
        found = rw (not_so (overtakes ns (tag_of x) (tag_of y)) (λ k. h ((if_overtakes view s t ns x y).0 k)), r.found);
        moved = ap (under x) r.moved;
      }

  low_back : (P : Traced → Type 0) {u v : List Traced} → Low (Overtakes view s t ns) u v → Each P v → Each P u
  low_back P (low h) k = (k.1.0, (k.0, k.1.1))
  low_back P (after h q) k = (k.0, low_back P q k.1)

  pub lows_back : (P : Traced → Type 0) {u v : List Traced} → Lows (Overtakes view s t ns) u v → Each P v → Each P u
  lows_back P (calm c) h = h
  lows_back P (again q r) h = low_back P q (lows_back P r h)

  sorting₁ : {u v : List Traced} → Each (Stands ns) u → Found [] u v → applied view t (next_step view ns (length t) u) u ≡ some v
  sorting₁ {u = u} h r = rw (none_gone ns u h, r.found) r.moved

  -- one pair less
  total_low : (f : Traced → ℕ) {u v : List Traced} → Low (Overtakes view s t ns) u v → total f u ≡ total f v
  total_low f (low h) = omega arith
  total_low f (after h q) = let i = total_low f q in omega arith

  same_length : {u v : List Traced} → Low (Overtakes view s t ns) u v → length u ≡ length v
  same_length (low h) = refl
  same_length (after h q) = ap suc (same_length q)

  below_one : (x y : Traced) → Overtakes view s t ns x y → below ns x y ≡ 1
  below_one x y h = rw (T_true (overtakes ns (tag_of x) (tag_of y)) ((if_overtakes view s t ns x y).1 h))

  below_none : (x y : Traced) → Overtakes view s t ns x y → below ns y x ≡ 0
  below_none x y h =
      rw (not_so (overtakes ns (tag_of y) (tag_of x)) (λ k. above_asym (image view s t ns x) (image view s t ns y) h ((if_overtakes view s t ns y x).0 k)))

  inverted_low : {u v : List Traced} → Low (Overtakes view s t ns) u v → inverted ns u ≡ suc (inverted ns v)
  inverted_low (low {e = x} {f = y} h) = let i = below_one x y h in let j = below_none x y h in omega arith
  inverted_low (after {e = x} h q) = let i = inverted_low q in let j = total_low (below ns x) q in omega arith

  -- as many steps as pairs against the order
  pub sorting : {u v : List Traced} → Lows (Overtakes view s t ns) u v → Orderly (changes view) (Overtakes view s t ns) u → Each (Stands ns) v
      → (w : List Traced) (k : ℕ) → Replays view ns t k v w
      → (j : ℕ) × Replays view ns t j u w × (j + inverted ns v ≡ k + inverted ns u) × (length u ≡ length v)
  sorting (calm c) o h w k r = (k, r, refl, refl)
  sorting (again q q') o h w k r =
      let p = orderly_low (changes view) (Leaves view s t ns) (Overtakes view s t ns)
      (λ x z. above_asym (image view s t ns x) (image view s t ns z)) q o in
      let i = sorting q' p h w k r in
      let a = inverted_low q in
      let b = i.2 in
      (suc i.0, stepped (sorting₁ (low_back (Stands ns) q (lows_back (Stands ns) q' h)) (find [] q o)) i.1, omega arith, same_length q ∙ i.3)
