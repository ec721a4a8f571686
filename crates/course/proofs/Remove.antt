-- The removals of the fixed order are the next steps: behind the last gone event that may be removed none is found. Assumes nothing.
use mathlib.Core.Path.{◌≡◌, refl, ◌∙◌, ap}
use mathlib.Core.Bool.{true, false, ◌&&◌}
use mathlib.Core.Option.{none, some}
use mathlib.Core.List.{List, [], ◌∷◌}
use Prim.Native.Nat.{ℕ, zero, suc, ◌+◌}
use native.Mathlib.Omega.{arith}
use lib.Dec.{T, eqb_refl}
use lib.ListN.{length}
use Rattle.event.specs.declared.Event.{Event}
use Rattle.rules.specs.View.{View}
use Rattle.rules.specs.Run.{Tag, old, new, Traced, tag_of, viewed, changes}
use Rattle.rules.proofs.Fixed.{Still, Last, Lasts, out, under as further, end, more}
use Rattle.rules.proofs.Traced.{Leaves}
use Rattle.rules.proofs.Truth.{or_left, or_right, T_true}
use Rattle.changes.specs.Allowed.{may_remove}
use Rattle.changes.specs.Change.{is_source, removed, applied, under, at}
use Rattle.changes.proofs.May.{if_removable, not_both, both}
use Rattle.course.specs.Step.{source_number, leaves, any_gone, removal, number_at, next_step, Replays, stepped}
use Rattle.course.proofs.Counts.{below, below_gone, gone_below, inverted, lost, total}
use Rattle.course.proofs.Tags.{if_leaves}

own_number : (ns : List ℕ) (g : Tag) → T (leaves ns g) → T (is_source (source_number g) g)
own_number ns (old i) h = eqb_refl i
own_number ns (new k) h = absurd h

module _ (view : Event → View) (s t : List Event) (ns : List ℕ) where
  -- where none may be removed, none is found
  none_found : (b u : List Traced) → Still (changes view) (Leaves view s t ns) b u → removal view ns b u ≡ none
  none_found b [] h = refl
  none_found b (x ∷ a) h =
      let c = leaves ns (tag_of x) in
      let d = may_remove (viewed view) b (viewed view x) a in
      let e : (c && d) ≡ false = not_both c d (λ g m. h.0 ((if_leaves view s t ns x).0 g) ((if_removable (viewed view) b (viewed view x) a).0 m)) in
      rw (none_found (x ∷ b) a h.1, e)

  -- the last that may be removed is found, and applied
  record Found (b u v : List Traced) : Type 0 where
    place : ℕ
    found : removal view ns b u ≡ some place
    after : at place (removed view (number_at u place)) b u ≡ some v
    some_gone : T (any_gone ns u)

  find : {b u v : List Traced} → Last (changes view) (Leaves view s t ns) b u v → Found b u v
  find (out {b = b} {a = a} {e = x} h g m) =
      let c = leaves ns (tag_of x) in
      let d = may_remove (viewed view) b (viewed view x) a in
      let i : T c = (if_leaves view s t ns x).1 g in
      let j : T d = (if_removable (viewed view) b (viewed view x) a).1 m in
      record {
        place = zero;
        found = rw (none_found (x ∷ b) a h, both c d i j);
        after = rw (both (is_source (source_number (tag_of x)) (tag_of x)) d (own_number ns (tag_of x) i) j);
        some_gone = or_left c (any_gone ns a) i;
      }
  find (further {b = b} {s = u} {e = x} q) =
      let r = find q in
      record {
        place = suc r.place;
        found = rw r.found;
        after = ap (under x) r.after;
        some_gone = or_right (leaves ns (tag_of x)) (any_gone ns u) r.some_gone;
      }

  removing₁ : {u v : List Traced} → Found [] u v → applied view t (next_step view ns (length t) u) u ≡ some v
  removing₁ {u = u} r = rw (T_true (any_gone ns u) r.some_gone, r.found) r.after

  -- each takes one gone event away, and no pair with it
  shorter : {b u v : List Traced} → Last (changes view) (Leaves view s t ns) b u v → length u ≡ suc (length v)
  shorter (out h g m) = refl
  shorter (further q) = ap suc (shorter q)

  is_gone_lem : (x : Traced) → Leaves view s t ns x → leaves ns (tag_of x) ≡ true
  is_gone_lem x g = T_true (leaves ns (tag_of x)) ((if_leaves view s t ns x).1 g)

  lost_last : {b u v : List Traced} → Last (changes view) (Leaves view s t ns) b u v → total (lost ns) u ≡ suc (total (lost ns) v)
  lost_last (out {e = x} h g m) = let i : lost ns x ≡ 1 = rw (is_gone_lem x g) in omega arith
  lost_last (further q) = let i = lost_last q in omega arith

  below_last : (y : Traced) {b u v : List Traced} → Last (changes view) (Leaves view s t ns) b u v → total (below ns y) u ≡ total (below ns y) v
  below_last y (out {e = x} h g m) = let i = below_gone ns y x (is_gone_lem x g) in omega arith
  below_last y (further q) = let i = below_last y q in omega arith

  inverted_last : {b u v : List Traced} → Last (changes view) (Leaves view s t ns) b u v → inverted ns u ≡ inverted ns v
  inverted_last (out {a = a} {e = x} h g m) = let i = gone_below ns x (is_gone_lem x g) a in omega arith
  inverted_last (further {e = x} q) = let i = inverted_last q in let j = below_last x q in omega arith

  -- as many steps as gone events
  pub removing : {u v : List Traced} → Lasts (changes view) (Leaves view s t ns) u v → (w : List Traced) (k : ℕ) → Replays view ns t k v w
      → (j : ℕ) × Replays view ns t j u w × (j + total (lost ns) v ≡ k + total (lost ns) u) × (j + length v ≡ k + length u) × (inverted ns u ≡ inverted ns v)
  removing (end h) w k r = (k, r, refl, refl, refl)
  removing (more q q') w k r =
      let i = removing q' w k r in
      let a = shorter q in
      let b = lost_last q in
      let c = i.2 in
      let d = i.3 in
      (suc i.0, stepped (removing₁ (find q)) i.1, omega arith, omega arith, inverted_last q ∙ i.4)
