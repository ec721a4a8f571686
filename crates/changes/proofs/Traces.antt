-- The trace that numbers stand for, by index, and the numbers again. Assumes nothing.
use mathlib.Core.Path.{◌≡◌, refl, ◌∙◌, ap, ap₂}
use mathlib.Core.Bool.{Bool, true, false, cond}
use mathlib.Core.List.{List, [], ◌∷◌, ◌++◌}
use Prim.Native.Nat.{ℕ, zero, suc, ◌+◌, ◌-◌, ◌<◌, ◌≤◌}
use native.Mathlib.Numerals.{add-one}
use native.Mathlib.Omega.{arith}
use lib.Dec.{ltb}
use lib.ListN.{length, get_or, take, drop, get_or-map, drop_of_length-le}
use lib.Seq.{drop-cons}
use borrow.Author.Tests.{ltb-false}
use Rattle.std.proofs.lemmas.List.{take_rest}
use Rattle.event.specs.declared.Event.{Event}
use Rattle.rules.specs.Run.{old, new}
use Rattle.changes.specs.Tags.{behind, code, codes, decoded, trace, traced_for}
use Rattle.changes.proofs.Seam.{behind_next}
use Rattle.event.specs.Limit.{event_limit}

-- ---- a number is that of its event

pub code_decoded : (k : ℕ) → code (decoded k) ≡ k
code_decoded k = go (ltb k event_limit) refl
  where
    go : (c : Bool) → ltb k event_limit ≡ c → code (cond c (old (suc k)) (new (suc (k - event_limit)))) ≡ k
    go true e = omega arith
    go false e = let h = ltb-false k event_limit e in omega arith

module _ (s t : List Event) where
  pub codes_trace : (ks : List ℕ) → codes (trace s t ks) ≡ ks
  codes_trace [] = refl
  codes_trace (k ∷ ks) = ap₂ ◌∷◌ (code_decoded k) (codes_trace ks)

  pub length_trace : (ks : List ℕ) → length (trace s t ks) ≡ length ks
  length_trace [] = refl
  length_trace (k ∷ ks) = ap suc (length_trace ks)

  pub trace_append : (ks ls : List ℕ) → trace s t (ks ++ ls) ≡ trace s t ks ++ trace s t ls
  trace_append [] ls = refl
  trace_append (k ∷ ks) ls = rw (trace_append ks ls)

  pub trace_take : (n : ℕ) (ks : List ℕ) → trace s t (take n ks) ≡ take n (trace s t ks)
  trace_take zero ks = refl
  trace_take (suc n) [] = refl
  trace_take (suc n) (k ∷ ks) = rw (trace_take n ks)

  pub trace_drop : (n : ℕ) (ks : List ℕ) → trace s t (drop n ks) ≡ drop n (trace s t ks)
  trace_drop zero ks = refl
  trace_drop (suc n) [] = refl
  trace_drop (suc n) (k ∷ ks) = trace_drop n ks

  -- what a slice from behind an index on holds
  pub trace_after : (ks : List ℕ) (i : ℕ) → trace s t (take (length ks - (i + 1)) (drop (i + 1) ks)) ≡ drop (suc i) (trace s t ks)
  trace_after ks i = rw (take_rest ks (i + 1), add-one i) (trace_drop (suc i) ks)

  -- ---- by index

  pub trace_at : (ks : List ℕ) (i : ℕ) → get_or (trace s t ks) i (traced_for s t 0) ≡ traced_for s t (get_or ks i 0)
  trace_at ks i = get_or-map (traced_for s t) ks i 0

  module _ (ks : List ℕ) (i : ℕ) (h : i < length ks) where
    in_trace : i < length (trace s t ks)
    in_trace = omega (arith, length_trace ks)

    behind_at : behind [] (trace s t ks) (suc i) ≡ traced_for s t (get_or ks i 0) ∷ behind [] (trace s t ks) i
    behind_at = behind_next (traced_for s t 0) i [] (trace s t ks) in_trace ∙ ap (λ x. x ∷ behind [] (trace s t ks) i) (trace_at ks i)

    pub drop_at : drop i (trace s t ks) ≡ traced_for s t (get_or ks i 0) ∷ drop (i + 1) (trace s t ks)
    drop_at =
        rw (add-one i) (drop-cons (trace s t ks) i (traced_for s t 0) in_trace ∙ ap (λ x. x ∷ drop (suc i) (trace s t ks)) (trace_at ks i))

  pub drop_past : (ks : List ℕ) (i : ℕ) → length ks ≤ i → drop i (trace s t ks) ≡ []
  drop_past ks i h = drop_of_length-le (trace s t ks) {i = i} (omega (arith, length_trace ks))

  pub behind_below : (ks : List ℕ) (j : ℕ) → 0 < j → j ≤ length ks
      → behind [] (trace s t ks) j ≡ traced_for s t (get_or ks (j - 1) 0) ∷ behind [] (trace s t ks) (j - 1)
  behind_below ks zero h l = absurd (omega arith)
  behind_below ks (suc i) h l = let e : suc i - 1 ≡ i = omega arith in rw e (behind_at ks i (omega arith))
