-- No run that realises a matching has fewer steps than the matching costs: it takes away the gone events and the reversed pairs one by one, and adds
-- what is new one by one. That it removes nothing but the gone events follows from counting: every kept one stands in the target. Assumes nothing.
use mathlib.Core.Path.{◌≡◌, refl, ap}
use mathlib.Core.Logic.{◌≢◌}
use mathlib.Core.Bool.{Bool, true, false, not, cond, ◌||◌}
use mathlib.Core.List.{List, [], ◌∷◌}
use Prim.Native.Nat.{ℕ, zero, suc, ◌+◌, ◌≤◌, ◌<◌}
use native.Mathlib.Omega.{arith}
use lib.Dec.{eqb, T_not}
use lib.ListN.{length}
use borrow.Author.Tests.{eqb-true, eqb-false}
use Rattle.laws.specs.Has.{has}
use Rattle.event.specs.declared.Event.{Event}
use Rattle.rules.specs.View.{View}
use Rattle.rules.specs.Moves.{Run}
use Rattle.rules.specs.Run.{old, Traced, tag_of, number, origin, changes, Ends}
use Rattle.rules.proofs.Entries.{Entries, Once, Within}
use Rattle.changes.proofs.May.{not_so}
use Rattle.course.specs.Cost.{bit, cost, is_kept, many, steps_of}
use Rattle.course.proofs.Counts.{fresh, fresh_begin, inverted_begin, is_new, lost_begin, none_lost, stays, stays_begin, total}
use Rattle.course.proofs.Insert.{inverted_rises, rises_numbers}
use Rattle.course.proofs.Tags.{ended_at, numbers, stand}
use Rattle.course.proofs.Weigh.{less_ones, weigh_ones, adds_twos, weigh_twos}

-- ---- the target's numbers that no entry names, from k on

abbrev unnamed : List ℕ → ℕ → List Event → ℕ
unnamed ns k [] = 0
unnamed ns k (e ∷ r) = bit (not (has k ns)) + unnamed ns (suc k) r

less : (c d : Bool) → bit (not (c || d)) ≤ bit (not d)
less true d = omega arith
less false d = omega arith

unnamed_less : (j : ℕ) (ns : List ℕ) (k : ℕ) (r : List Event) → unnamed (j ∷ ns) k r ≤ unnamed ns k r
unnamed_less j ns k [] = omega arith
unnamed_less j ns k (e ∷ r) = let a = less (eqb k j) (has k ns) in let b = unnamed_less j ns (suc k) r in omega arith

-- an entry names one more
unnamed_one : (j : ℕ) (ns : List ℕ) → has j ns ≡ false → (k : ℕ) (r : List Event) → k ≤ j → j < k + length r
    → suc (unnamed (j ∷ ns) k r) ≤ unnamed ns k r
unnamed_one j ns h k [] a b = absurd (omega arith)
unnamed_one j ns h k (e ∷ r) a b = go (eqb k j) refl (unnamed_less j ns (suc k) r) (unnamed_one j ns h (suc k) r)
  where
    go : (c : Bool) → eqb k j ≡ c → unnamed (j ∷ ns) (suc k) r ≤ unnamed ns (suc k) r
        → (suc k ≤ j → j < suc k + length r → suc (unnamed (j ∷ ns) (suc k) r) ≤ unnamed ns (suc k) r)
        → suc (bit (not (c || has k ns)) + unnamed (j ∷ ns) (suc k) r) ≤ bit (not (has k ns)) + unnamed ns (suc k) r
    go true q m ih =
        let i : k ≡ j = eqb-true k j q in
        let z : bit (not (has k ns)) ≡ 1 = rw (i, h) in
        omega arith
    go false q m ih =
        let ne = eqb-false k j q in
        let i = ih (omega arith) (omega arith) in
        omega arith

kept_named : (t : List Event) (ns : List ℕ) → Within (length t) ns → Once ns → many is_kept ns + unnamed ns 1 t ≤ length t
kept_named t [] w o = let i = none_named 1 t in omega arith
  where
    none_named : (k : ℕ) (r : List Event) → unnamed [] k r ≤ length r
    none_named k [] = omega arith
    none_named k (e ∷ r) = let i = none_named (suc k) r in omega arith
kept_named t (zero ∷ ns) w o = let i = kept_named t ns w.1 o.1 in let j = unnamed_less 0 ns 1 t in omega arith
kept_named t (suc n ∷ ns) w o =
    let ne : suc n ≢ 0 = λ z. omega arith in
    let a = w.0 ne in
    let b = not_so (has (suc n) ns) (T_not (has (suc n) ns) (o.0 ne)) in
    let i = kept_named t ns w.1 o.1 in
    let j = unnamed_one (suc n) ns b 1 t (omega arith) (omega arith) in
    omega arith

-- ---- the trace that a run ends with

module _ (ns : List ℕ) where
  new_unless : (k i : ℕ) (ms : List ℕ) → is_new (origin k i ms) ≡ not (has k ms)
  new_unless k i [] = refl
  new_unless k i (m ∷ ms) = go (eqb k m) (new_unless k (suc i) ms)
    where
      go : (c : Bool) → is_new (origin k (suc i) ms) ≡ not (has k ms) → is_new (cond c (old i) (origin k (suc i) ms)) ≡ not (c || has k ms)
      go true ih = refl
      go false ih = ih

  fresh_end : (k : ℕ) (u : List Traced) (r : List Event) → Ends ns k u r → total fresh u ≡ unnamed ns k r
  fresh_end k [] [] h = refl
  fresh_end k [] (e ∷ r) h = absurd h
  fresh_end k (x ∷ u) [] h = absurd h
  fresh_end k (x ∷ u) (e ∷ r) h =
      let i : fresh x ≡ bit (not (has k ns)) = rw h.0 (ap bit (new_unless k 1 ns)) in
      let j = fresh_end (suc k) u r h.2 in
      omega arith

  -- every event of it stands
  stays_end : (k : ℕ) (u : List Traced) (r : List Event) → Ends ns (suc k) u r → total (stays ns) u ≡ length r
  stays_end k [] [] h = refl
  stays_end k [] (e ∷ r) h = absurd h
  stays_end k (x ∷ u) [] h = absurd h
  stays_end k (x ∷ u) (e ∷ r) h =
      let a : stays ns x ≡ 1 = rw (ended_at ns k (tag_of x) h.0).0 in
      let i = stays_end (suc k) u r h.2 in
      omega arith

  module _ (view : Event → View) (s t : List Event) (w : Entries (length t) s ns) where
    pub least : (u : List Traced) (r : Run (changes view) (number 1 s) u) → Ends ns 1 u t → cost (length t) ns ≤ steps_of r
    least u r e =
        let many-new = fresh_end 1 u t e in
        let named = kept_named t ns w.within_n w.used_once in
        let All-stay = stays_end 0 u t e in
        let nothing-lost = none_lost ns u (stand ns 0 u t e) in
        let none-inverted = inverted_rises ns 0 u (rises_numbers ns 0 1 u (numbers ns 0 u t e) refl) in
        let lost-first = lost_begin ns s w.many in
        let kept-first = stays_begin ns s w.many in
        let inverted-first = inverted_begin ns s w.many in
        let new-first = fresh_begin ns s w.many in
        let new-less = less_ones view fresh r.1 in
        let stay-less = less_ones view (stays ns) r.1 in
        let added = adds_twos view ns r.2 in
        let one = weigh_ones view ns r.1 (omega arith) in
        let two = weigh_twos view ns r.2 in
        omega arith
