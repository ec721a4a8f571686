-- What a step makes of the trace that the first n numbers of an array stand for, by index. Assumes nothing.
use mathlib.Core.Path.{◌≡◌, refl, sym, ◌∙◌, ap, ap₂}
use mathlib.Core.Bool.{Bool, true, false, cond, ◌&&◌}
use mathlib.Core.Option.{Option, none, some}
use mathlib.Core.List.{List, [], ◌∷◌, ◌++◌}
use Prim.Native.Nat.{ℕ, zero, suc, ◌+◌, ◌-◌, ◌≤◌, ◌<◌}
use native.Mathlib.Omega.{arith}
use lib.Dec.{ltb}
use lib.ListN.{length, get_or, take, drop}
use borrow.Author.Tests.{le-ltb, lt-ltb}
use Rattle.event.specs.Room.{no_event}
use Rattle.event.specs.declared.Event.{Event}
use Rattle.rules.specs.View.{view_in, apart}
use Rattle.rules.specs.Run.{new, Traced, traced, viewed}
use Rattle.changes.specs.Allowed.{may_insert}
use Rattle.changes.specs.Apply.{removable_at}
use Rattle.changes.specs.Inner.{exchanged, with_new, without}
use Rattle.changes.specs.Change.{applied, at, inserted, is_source, removed, swapped, under}
use Rattle.changes.specs.Tags.{behind, decoded, event_for, trace, traced_for}
use Rattle.changes.specs.declared.Step.TheVariants.{Remove, Swap, Insert}
use Rattle.changes.proofs.Near.{removable_in}
use Rattle.changes.proofs.Seam.{insert_seam, remove_seam, swap_seam}
use Rattle.changes.proofs.Traces.{length_trace, trace_append, trace_at, trace_drop, trace_take}
use Rattle.event.specs.Limit.{event_limit}

-- ---- past the end nothing happens

at_out : (f : List Traced → List Traced → Option (List Traced)) → ((b : List Traced) → f b [] ≡ none) → (i : ℕ) (b u : List Traced)
    → length u ≤ i → at i f b u ≡ none
at_out f z zero b [] l = z b
at_out f z zero b (x ∷ u) l = absurd (omega arith)
at_out f z (suc i) b [] l = refl
at_out f z (suc i) b (x ∷ u) l = ap (under x) (at_out f z i (x ∷ b) u (omega arith))

at_far : (f : List Traced → List Traced → Option (List Traced)) (i : ℕ) (b u : List Traced) → length u < i → at i f b u ≡ none
at_far f zero b u l = absurd (omega arith)
at_far f (suc i) b [] l = refl
at_far f (suc i) b (x ∷ u) l = ap (under x) (at_far f i (x ∷ b) u (omega arith))

swap_out : (regs : List Bool) (i : ℕ) (b u : List Traced) → length u ≤ suc i → at i (swapped (view_in regs)) b u ≡ none
swap_out regs zero b [] l = refl
swap_out regs zero b (x ∷ []) l = refl
swap_out regs zero b (x ∷ y ∷ u) l = absurd (omega arith)
swap_out regs (suc i) b [] l = refl
swap_out regs (suc i) b (x ∷ u) l = ap (under x) (swap_out regs i (x ∷ b) u (omega arith))

-- ---- the event that is inserted

pub new_one : (s t : List Event) (i : ℕ) → traced_for s t (event_limit + i) ≡ traced (new (suc i)) (get_or t i no_event)
new_one s t i =
    let h : ltb (event_limit + i) event_limit ≡ false = le-ltb (event_limit + i) event_limit (omega arith) in
    let e : event_limit + i - event_limit ≡ i = omega arith in
    rw (h, e)

module _ (regs : List Bool) (s t : List Event) (ks : List ℕ) where
  -- what stands
  abbrev u : List Traced
  u = trace s t ks

  many : length u ≡ length ks
  many = length_trace s t ks

  -- ---- removal

  pub remove_past : (place number : ℕ) → length ks < place → applied (view_in regs) t (Remove place number) u ≡ none
  remove_past zero number l = absurd (omega arith)
  remove_past (suc i) number l = at_out (removed (view_in regs) number) (λ b. refl) i [] u (omega (arith, many))

  less : (i : ℕ) → take i u ++ drop (suc i) u ≡ trace s t (without i ks)
  less i = sym (trace_append s t (take i ks) (drop (suc i) ks) ∙ ap₂ ◌++◌ (trace_take s t i ks) (trace_drop s t (suc i) ks))

  remove_in : (i number : ℕ) → i < length ks → applied (view_in regs) t (Remove (suc i) number) u
      ≡ cond (is_source number (decoded (get_or ks i 0)) && removable_at regs s t ks i) (some (trace s t (without i ks))) none
  remove_in i number l =
      remove_seam (view_in regs) (traced_for s t 0) number i u (omega (arith, many))
      ∙ rw (trace_at s t ks i, less i, removable_in regs s t ks i l) refl

  pub remove_at : (place number : ℕ) → 0 < place → place ≤ length ks → applied (view_in regs) t (Remove place number) u
      ≡ cond (is_source number (decoded (get_or ks (place - 1) 0)) && removable_at regs s t ks (place - 1)) (some (trace s t (without (place - 1) ks))) none
  remove_at zero number z l = absurd (omega arith)
  remove_at (suc i) number z l = let e : suc i - 1 ≡ i = omega arith in rw e (remove_in i number (omega arith))

  -- ---- swap

  pub swap_past : (place : ℕ) → length ks ≤ place → applied (view_in regs) t (Swap place) u ≡ none
  swap_past zero l = refl
  swap_past (suc i) l = swap_out regs i [] u (omega (arith, many))

  turned : (i : ℕ) → take i u ++ get_or u (suc i) (traced_for s t 0) ∷ get_or u i (traced_for s t 0) ∷ drop (suc (suc i)) u ≡ trace s t (exchanged i ks)
  turned i =
      sym (trace_append s t (take i ks) (get_or ks (suc i) 0 ∷ get_or ks i 0 ∷ drop (suc (suc i)) ks)
      ∙ rw (trace_take s t i ks, trace_drop s t (suc (suc i)) ks, trace_at s t ks i, trace_at s t ks (suc i)))

  swap_in : (i : ℕ) → suc i < length ks → applied (view_in regs) t (Swap (suc i)) u
      ≡ cond (apart (view_in regs (event_for s t (get_or ks i 0))) (view_in regs (event_for s t (get_or ks (suc i) 0)))) (some (trace s t (exchanged i ks))) none
  swap_in i l =
      swap_seam (view_in regs) (traced_for s t 0) i u (omega (arith, many))
      ∙ rw (turned i, trace_at s t ks i, trace_at s t ks (suc i)) refl

  pub swap_at : (place : ℕ) → 0 < place → place < length ks → applied (view_in regs) t (Swap place) u
      ≡ cond (apart (view_in regs (event_for s t (get_or ks (place - 1) 0))) (view_in regs (event_for s t (get_or ks place 0))))
      (some (trace s t (exchanged (place - 1) ks))) none
  swap_at zero z l = absurd (omega arith)
  swap_at (suc i) z l = let e : suc i - 1 ≡ i = omega arith in rw e (swap_in i l)

  -- ---- insertion

  both_false : (b : Bool) {A : Type 0} (x y : A) → cond (b && false) x y ≡ y
  both_false true x y = refl
  both_false false x y = refl

  either_way : (b : Bool) {A : Type 0} (x : A) → cond b x x ≡ x
  either_way true x = refl
  either_way false x = refl

  pub insert_beyond : (place : ℕ) → length t < place → applied (view_in regs) t (Insert place) u ≡ none
  insert_beyond zero l = absurd (omega arith)
  insert_beyond (suc i) l = rw (le-ltb i (length t) (omega arith)) refl

  pub insert_full : (place : ℕ) → event_limit ≤ length ks → applied (view_in regs) t (Insert place) u ≡ none
  insert_full zero l = refl
  insert_full (suc i) l = rw (many, le-ltb (length ks) event_limit l) (both_false (ltb i (length t)) _ _)

  pub insert_past : (place : ℕ) → length ks + 1 < place → applied (view_in regs) t (Insert place) u ≡ none
  insert_past zero l = absurd (omega arith)
  insert_past (suc i) l =
      rw (at_far (inserted (view_in regs) (traced (new (suc i)) (get_or t i no_event))) i [] u (omega (arith, many)))
      (either_way (ltb i (length t) && ltb (length u) event_limit) none)

  grown : (i : ℕ) → take i u ++ traced (new (suc i)) (get_or t i no_event) ∷ drop i u ≡ trace s t (with_new i (event_limit + i) ks)
  grown i =
      sym (trace_append s t (take i ks) ((event_limit + i) ∷ drop i ks)
      ∙ rw (trace_take s t i ks, trace_drop s t i ks, new_one s t i))

  insert_in : (i : ℕ) → i < length t → length ks < event_limit → i ≤ length ks → applied (view_in regs) t (Insert (suc i)) u
      ≡ cond (may_insert (viewed (view_in regs)) (behind [] u i) (view_in regs (get_or t i no_event))) (some (trace s t (with_new i (event_limit + i) ks))) none
  insert_in i l m k =
      rw (lt-ltb i (length t) l, many, lt-ltb (length ks) event_limit m)
      (insert_seam (view_in regs) (traced (new (suc i)) (get_or t i no_event)) i u (omega (arith, many)) ∙ rw (grown i) refl)

  pub insert_at : (place : ℕ) → 0 < place → place ≤ length t → length ks < event_limit → place ≤ length ks + 1
      → applied (view_in regs) t (Insert place) u
      ≡ cond (may_insert (viewed (view_in regs)) (behind [] u (place - 1)) (view_in regs (get_or t (place - 1) no_event)))
      (some (trace s t (with_new (place - 1) (event_limit + (place - 1)) ks))) none
  insert_at zero z l m k = absurd (omega arith)
  insert_at (suc i) z l m k = let e : suc i - 1 ≡ i = omega arith in rw e (insert_in i (omega arith) m (omega arith))
