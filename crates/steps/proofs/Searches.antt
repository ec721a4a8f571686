-- For loops over a trace by index: each search, seen from an index on. Assumes nothing.
use mathlib.Core.Path.{◌≡◌, refl, sym, ◌∙◌, ap}
use mathlib.Core.Bool.{Bool, true, false, cond, ◌&&◌, ◌||◌}
use mathlib.Core.Option.{Option, none, some, none-ne-some}
use mathlib.Core.List.{List, [], ◌∷◌}
use Prim.Native.Nat.{ℕ, zero, suc, ◌+◌, ◌-◌, ◌<◌, ◌≤◌}
use native.Mathlib.Numerals.{add-one}
use native.Mathlib.Omega.{arith}
use lib.ListN.{length, get_or, drop}
use lib.Seq.{drop-cons}
use Rattle.event.specs.declared.Event.{Event}
use Rattle.rules.specs.View.{View, view_in}
use Rattle.rules.specs.Run.{Traced, tag_of, viewed}
use Rattle.changes.specs.Allowed.{may_remove}
use Rattle.std.specs.List.{list_any}
use Rattle.changes.specs.Apply.{removable_at}
use Rattle.changes.specs.Tags.{behind, decoded, trace, traced_for}
use Rattle.changes.specs.declared.Step.TheVariants.{Remove, Swap}
use Rattle.changes.proofs.Near.{removable_in}
use Rattle.changes.proofs.Seam.{behind_next}
use Rattle.changes.proofs.Traces.{length_trace, trace_at}
use Rattle.course.specs.Step.{any_gone, leaves, missing, order_step, overtakes, against, number_at, removal, remove_step, here_or_later, shifted}
use Rattle.steps.proofs.Numbers.{leaving_old, number_at_lem}

module _ (view : Event → View) where
  -- ---- the last removal: downward, with nothing found from the index on

  abbrev pub Open : List ℕ → Traced → List Traced → ℕ → Bool
  Open ns d u i = leaves ns (tag_of (get_or u i d)) && may_remove (viewed view) (behind [] u i) (viewed view (get_or u i d)) (drop (suc i) u)

  removal_from : (ns : List ℕ) (d : Traced) (i : ℕ) (u : List Traced) → i < length u → removal view ns (behind [] u (suc i)) (drop (suc i) u) ≡ none
      → (c : Bool) → Open ns d u i ≡ c → removal view ns (behind [] u i) (drop i u) ≡ cond c (some zero) none
  removal_from ns d i u l h true e = rw (drop-cons u i d l, ← behind_next d i [] u l, h, e)
  removal_from ns d i u l h false e = rw (drop-cons u i d l, ← behind_next d i [] u l, h, e)

  removal_later : (ns : List ℕ) (i j : ℕ) (b u : List Traced) → removal view ns (behind b u i) (drop i u) ≡ some j → removal view ns b u ≡ some (i + j)
  removal_later ns zero j b u h = h ∙ ap some (sym (omega arith))
  removal_later ns (suc i) j b [] h = absurd (none-ne-some j h)
  removal_later ns (suc i) j b (x ∷ u) h = rw (removal_later ns i j (x ∷ b) u h) (ap some (omega arith))

  -- going on, and found
  pub removal_on : (ns : List ℕ) (d : Traced) (i : ℕ) (u : List Traced) → i < length u → removal view ns (behind [] u (suc i)) (drop (suc i) u) ≡ none
      → Open ns d u i ≡ false → removal view ns (behind [] u i) (drop i u) ≡ none
  removal_on ns d i u l h e = removal_from ns d i u l h false e

  pub removal_found : (ns : List ℕ) (d : Traced) (i : ℕ) (u : List Traced) → i < length u → removal view ns (behind [] u (suc i)) (drop (suc i) u) ≡ none
      → Open ns d u i ≡ true → removal view ns [] u ≡ some i
  removal_found ns d i u l h e = removal_later ns i 0 [] u (removal_from ns d i u l h true e) ∙ ap some (omega arith)

-- ---- the first place against the order, from an index on: upward

module _ (ns : List ℕ) (d : Traced) (i : ℕ) (u : List Traced) (l : suc i < length u) where
  pub against_next : overtakes ns (tag_of (get_or u i d)) (tag_of (get_or u (suc i) d)) ≡ false
      → shifted i (against ns (drop i u)) ≡ shifted (suc i) (against ns (drop (suc i) u))
  against_next e = rw (drop-cons u i d (omega arith), drop-cons u (suc i) d l, e) (go (against ns (get_or u (suc i) d ∷ drop (suc (suc i)) u)))
    where
      go : (o : Option ℕ) → shifted i (here_or_later false o) ≡ shifted (suc i) o
      go none = refl
      go (some j) = ap some (omega arith)

  pub against_found : overtakes ns (tag_of (get_or u i d)) (tag_of (get_or u (suc i) d)) ≡ true → shifted i (against ns (drop i u)) ≡ some i
  against_found e = rw (drop-cons u i d (omega arith), drop-cons u (suc i) d l, e) (ap some (omega arith))

pub against_end : (ns : List ℕ) (i : ℕ) (u : List Traced) → length u ≤ suc i → against ns (drop i u) ≡ none
against_end ns zero [] l = refl
against_end ns zero (x ∷ []) l = refl
against_end ns zero (x ∷ y ∷ u) l = absurd (omega arith)
against_end ns (suc i) [] l = refl
against_end ns (suc i) (x ∷ u) l = against_end ns i u (omega arith)

-- ---- a gone event

pub any_listed : (ns : List ℕ) (s t : List Event) (ks : List ℕ) → list_any (λ k. leaves ns (decoded k)) ks ≡ any_gone ns (trace s t ks)
any_listed ns s t [] = refl
any_listed ns s t (k ∷ ks) = ap (λ r. leaves ns (decoded k) || r) (any_listed ns s t ks)

-- ---- the last removal, of the numbers that stand: nothing is found from an index on

module _ (regs : List Bool) (ns : List ℕ) (s t : List Event) (ks : List ℕ) where
  abbrev pub Past : ℕ → Type 0
  Past i = removal (view_in regs) ns (behind [] (trace s t ks) i) (drop i (trace s t ks)) ≡ none

  module _ (i : ℕ) (l : i < length ks) (p : Past (suc i)) where
    inside : i < length (trace s t ks)
    inside = omega (arith, length_trace s t ks)

    open_is : (b : Bool) → (leaves ns (decoded (get_or ks i 0)) && removable_at regs s t ks i) ≡ b
        → Open (view_in regs) ns (traced_for s t 0) (trace s t ks) i ≡ b
    open_is b h =
        let m = removable_in regs s t ks i l in
        rw (trace_at s t ks i) (ap (λ r. leaves ns (decoded (get_or ks i 0)) && r) (sym m) ∙ h)

    passed : (leaves ns (decoded (get_or ks i 0)) && removable_at regs s t ks i) ≡ false → Past i
    passed h = removal_on (view_in regs) ns (traced_for s t 0) i (trace s t ks) inside p (open_is false h)

    met : leaves ns (decoded (get_or ks i 0)) ≡ true → removable_at regs s t ks i ≡ true
        → Remove (i + 1) (get_or ks i 0 + 1) ≡ remove_step (trace s t ks) (removal (view_in regs) ns [] (trace s t ks))
    met g m =
        let r = removal_found (view_in regs) ns (traced_for s t 0) i (trace s t ks) inside p (open_is true (rw (g, m))) in
        let n : number_at (trace s t ks) i ≡ suc (get_or ks i 0) = number_at_lem s t ks i l ∙ (leaving_old ns (get_or ks i 0) g).1 in
        rw (r, n, add-one i, add-one (get_or ks i 0))

  -- the same a place down
  pub removal_passed : (j : ℕ) → 0 < j → j ≤ length ks → Past j → (leaves ns (decoded (get_or ks (j - 1) 0)) && removable_at regs s t ks (j - 1)) ≡ false
      → Past (j - 1)
  removal_passed zero z l p h = absurd (omega arith)
  removal_passed (suc i) z l p h = let e : suc i - 1 ≡ i = omega arith in rw e (passed i (omega arith) p (rw (← e) h))

  pub removal_met : (j : ℕ) → 0 < j → j ≤ length ks → Past j → leaves ns (decoded (get_or ks (j - 1) 0)) ≡ true → removable_at regs s t ks (j - 1) ≡ true
      → Remove (j - 1 + 1) (get_or ks (j - 1) 0 + 1) ≡ remove_step (trace s t ks) (removal (view_in regs) ns [] (trace s t ks))
  removal_met zero z l p g m = absurd (omega arith)
  removal_met (suc i) z l p g m = let e : suc i - 1 ≡ i = omega arith in rw e (met i (omega arith) p (rw (← e) g) (rw (← e) m))

-- ---- the first place against the order, of the numbers that stand

module _ (ns : List ℕ) (s t : List Event) (ks : List ℕ) (i : ℕ) where
  abbrev Against : Option ℕ
  Against = shifted i (against ns (drop i (trace s t ks)))

  module _ (l : i + 1 < length ks) where
    within : suc i < length (trace s t ks)
    within = omega (arith, length_trace s t ks)

    overtakes_is : (b : Bool) → overtakes ns (decoded (get_or ks i 0)) (decoded (get_or ks (i + 1) 0)) ≡ b
        → overtakes ns (tag_of (get_or (trace s t ks) i (traced_for s t 0))) (tag_of (get_or (trace s t ks) (suc i) (traced_for s t 0))) ≡ b
    overtakes_is b h = rw (trace_at s t ks i, trace_at s t ks (suc i), ← add-one i) h

    pub order_passed : overtakes ns (decoded (get_or ks i 0)) (decoded (get_or ks (i + 1) 0)) ≡ false
        → Against ≡ shifted (i + 1) (against ns (drop (i + 1) (trace s t ks)))
    order_passed h = rw (add-one i) (against_next ns (traced_for s t 0) i (trace s t ks) within (overtakes_is false h))

    pub order_met : (n from : ℕ) → shifted from (against ns (drop from (trace s t ks))) ≡ Against
        → overtakes ns (decoded (get_or ks i 0)) (decoded (get_or ks (i + 1) 0)) ≡ true → Swap (i + 1) ≡ order_step ns n from (trace s t ks)
    order_met n from e h = rw (e, against_found ns (traced_for s t 0) i (trace s t ks) within (overtakes_is true h), add-one i) refl

  pub order_kept : (n from : ℕ) → length ks ≤ i + 1 → shifted from (against ns (drop from (trace s t ks))) ≡ Against
      → missing ns n 1 (trace s t ks) ≡ order_step ns n from (trace s t ks)
  order_kept n from l e = rw (e, against_end ns i (trace s t ks) (omega (arith, length_trace s t ks))) refl
