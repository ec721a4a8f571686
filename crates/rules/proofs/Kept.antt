-- What is kept stands at its number in the trace that a run ends with, since that trace's tags are the entries' origins and no number is used twice;
-- what is gone stands nowhere, since an origin is never a gone event. Assumes nothing.
use mathlib.Core.Path.{◌≡◌, refl, sym, ◌∙◌, ap}
use mathlib.Core.Logic.{◌≢◌}
use mathlib.Core.Bool.{not}
use mathlib.Core.List.{List, [], ◌∷◌, map}
use Prim.Native.Nat.{ℕ, zero, suc, ◌+◌, ◌<◌, ◌≤◌}
use native.Mathlib.Omega.{arith}
use lib.ListN.{length, get_or, get_or-eq_default}
use Rattle.laws.proofs.Cases.{cases, side}
use Rattle.laws.specs.Has.{has}
use Rattle.event.specs.declared.Event.{Event}
use Rattle.rules.specs.Run.{Tag, Traced, tag_of, old, new, origin, Ends}
use Rattle.rules.specs.Fault.{fate, gone, stays, nth}
use Rattle.rules.specs.Demand.{KeptAndGone}
use Rattle.rules.proofs.Entries.{Entries, Within, entries, from_start}
use Rattle.rules.proofs.Origin.{fates, origin_fate, origin_old}

-- the tag at a place is the origin of its number
tags : (ns : List ℕ) (k : ℕ) (u : List Traced) (t : List Event) → Ends ns k u t → (j n : ℕ) → n ≡ k + j → j < length t
    → get_or (map tag_of u) j (new 0) ≡ origin n 1 ns
tags ns k [] [] e j n q h = absurd (omega arith)
tags ns k [] (f ∷ t) e j n q h = absurd e
tags ns k (x ∷ u) [] e j n q h = absurd e
tags ns k (x ∷ u) (f ∷ t) e zero n q h = let z : n ≡ k = omega arith in rw z e.0
tags ns k (x ∷ u) (f ∷ t) e (suc j) n q h = tags ns (suc k) u t e.2 j n (omega arith) (omega arith)

-- there are as many as target events
many : (ns : List ℕ) (k : ℕ) (u : List Traced) (t : List Event) → Ends ns k u t → length (map tag_of u) ≡ length t
many ns k [] [] e = refl
many ns k [] (f ∷ t) e = absurd e
many ns k (x ∷ u) [] e = absurd e
many ns k (x ∷ u) (f ∷ t) e = ap suc (many ns (suc k) u t e.2)

within_at : (n : ℕ) (ks : List ℕ) → Within n ks → (j : ℕ) → get_or ks j 0 ≢ 0 → get_or ks j 0 ≤ n
within_at n [] h j ne = absurd (ne refl)
within_at n (k ∷ ks) h zero ne = h.0 ne
within_at n (k ∷ ks) h (suc j) ne = within_at n ks h.1 j ne

-- an origin is no gone event
no_origin : (ns : List ℕ) (k i : ℕ) → nth 0 ns i ≡ 0 → origin (suc k) 1 ns ≢ old i
no_origin ns k i z h =
    let f : fate (nth 0 ns i) ≡ stays (not (has (suc k) ns)) (suc k) = ap (fates ns) (sym h) ∙ origin_fate ns k 0 ns (from_start 0 ns) in
    let g : gone ≡ stays (not (has (suc k) ns)) (suc k) = rw z at f in
    let q : ◌≡◌ {A = ℕ} 0 1 = cc in absurd (omega arith)

module _ (ns : List ℕ) (s t : List Event) (u : List Traced) (r : Entries (length t) s ns) (e : Ends ns 1 u t) where
  -- the tag at a number that is kept
  at_number : (i k : ℕ) → nth 0 ns i ≡ k → k ≢ 0 → nth (new 0) (map tag_of u) k ≡ old i
  at_number zero k h ne = absurd (ne (sym h))
  at_number (suc i) zero h ne = absurd (ne refl)
  at_number (suc i) (suc k) h ne =
      let b : get_or ns i 0 ≤ length t = within_at (length t) ns r.within_n i (λ z. ne (sym h ∙ z)) in
      tags ns 1 u t e k (suc k) (omega arith) (omega (arith, b, h)) ∙ origin_old (suc k) 1 ns ne r.used_once i (suc i) (omega arith) h

  nowhere : (i : ℕ) → nth 0 ns i ≡ 0 → (k : ℕ) → nth (new 0) (map tag_of u) k ≢ old i
  nowhere i z zero h = let q : ◌≡◌ {A = ℕ} 0 1 = cc in absurd (omega arith)
  nowhere i z (suc k) h =
      cases (side k (length t)) (λ b. no_origin ns k i z (sym (tags ns 1 u t e k (suc k) (omega arith) b) ∙ h))
      (λ b.
      let d : get_or (map tag_of u) k (new 0) ≡ new 0 = get_or-eq_default {A = Tag} (map tag_of u) (new 0) (omega (arith, b, many ns 1 u t e)) in
      let c : new 0 ≡ old i = sym d ∙ h in
      let q : ◌≡◌ {A = ℕ} 0 1 = cc in absurd (omega arith))

pub kept_and_gone : KeptAndGone
kept_and_gone regs m n s t ns p u e =
    let r = entries (length t) s ns p.count p.entries in
    (λ i ne. at_number ns s t u r e i (nth 0 ns i) refl ne, nowhere ns s t u r e)
