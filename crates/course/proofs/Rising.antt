-- What a replay inserts has the least number that no event has: no two events that stand have one number, so where no place is against the order the
-- numbers rise. Assumes nothing.
use mathlib.Core.Path.{◌≡◌, refl, sym, ◌∙◌, ap}
use mathlib.Core.Bool.{Bool, true, false, not, cond, ◌&&◌, ◌||◌, false≢true}
use mathlib.Core.Option.{Option, none, some, some-injective, none-ne-some, some-ne-none}
use mathlib.Core.List.{List, [], ◌∷◌}
use Prim.Native.Nat.{ℕ, zero, suc, ◌+◌, ◌<◌, ◌≤◌}
use native.Mathlib.Omega.{arith}
use lib.Dec.{T, eqb, ltb, T_not}
use lib.ListN.{length, get_or}
use borrow.Author.Tests.{eqb-true, eqb-false, ne_eqb, eq-eqb, ltb-false}
use Rattle.laws.proofs.Lists.{Each}
use Rattle.laws.specs.Has.{has}
use Rattle.kinds.specs.Kind.{lawful}
use Rattle.event.specs.Room.{no_event}
use Rattle.event.specs.declared.Event.{Event}
use Rattle.rules.specs.View.{View}
use Rattle.rules.specs.Run.{new, Traced, traced, tag_of, number, viewed}
use Rattle.rules.specs.Fault.{is_gone}
use Rattle.rules.proofs.Entries.{Once, from_start}
use Rattle.changes.specs.Allowed.{may_insert, may_swap}
use Rattle.changes.specs.Change.{swapped, inserted, applied, under, at, phase}
use Rattle.changes.specs.declared.Step.{Step}
use Rattle.changes.specs.declared.Step.TheVariants.{Remove, Swap, Insert, Done, Stuck}
use Rattle.changes.proofs.Allow.{through, passed}
use Rattle.changes.proofs.May.{not_so}
use Rattle.course.specs.Cost.{bit, is_kept, many}
use Rattle.course.specs.Step.{leaves, target_number, overtakes, any_gone, against, here_or_later, missing, removal, remove_step, swap_step, next_step}
use Rattle.course.proofs.Runs.{move_one, phase_missing}
use Rattle.course.proofs.Insert.{Rises}
use Rattle.course.proofs.Tags.{Stands}
use Rattle.course.proofs.Counts.{total, begins}
use Rattle.course.proofs.Weigh.{less_one}
use Rattle.course.proofs.Words.{Along, here, on, targets, least_missing}
use Rattle.rules.specs.Moves.{one, two}
use Rattle.event.specs.Limit.{event_limit}

-- ---- a number comes once among the entries

abbrev kept_at : ℕ → ℕ → Bool
kept_at k j = is_kept j && eqb j k

abbrev times : ℕ → List ℕ → ℕ
times k ks = many (kept_at k) ks

times_none : (k : ℕ) (ks : List ℕ) → has k ks ≡ false → times k ks ≡ 0
times_none k [] h = refl
times_none k (j ∷ ks) h = go (eqb k j) refl h (times_none k ks)
  where
    no : (c : Bool) → bit (c && false) ≡ 0
    no true = refl
    no false = refl

    go : (c : Bool) → eqb k j ≡ c → (c || has k ks) ≡ false → (has k ks ≡ false → times k ks ≡ 0) → bit (not (is_gone j) && eqb j k) + times k ks ≡ 0
    go true q h ih = absurd (false≢true (sym h))
    go false q h ih =
        let ne = eqb-false k j q in
        let a : bit (not (is_gone j) && eqb j k) ≡ 0 = rw (ne_eqb j k (λ e. ne (sym e))) (no (not (is_gone j))) in
        let b = ih h in
        omega arith

-- how often a number may come
abbrev most : ℕ → ℕ
most k = bit (not (is_gone k))

times_most : (k : ℕ) (ks : List ℕ) → Once ks → times k ks ≤ most k
times_most k [] o = omega arith
times_most k (zero ∷ ks) o = let i = times_most k ks o.1 in omega arith
times_most k (suc j ∷ ks) o = go (eqb (suc j) k) refl (times_most k ks o.1)
  where
    go : (c : Bool) → eqb (suc j) k ≡ c → times k ks ≤ most k → bit (not (is_gone (suc j)) && eqb (suc j) k) + times k ks ≤ most k
    go true q ih =
        let e : suc j ≡ k = eqb-true (suc j) k q in
        let n = times_none (suc j) ks (not_so (has (suc j) ks) (T_not (has (suc j) ks) (o.0 (λ z. omega arith)))) in
        rw (← e, eq-eqb (suc j) (suc j) refl, n) (omega arith)
    go false q ih = rw q (omega arith)

module _ (ns : List ℕ) where
  -- it stands, at the number k
  abbrev held : ℕ → Traced → ℕ
  held k x = bit (not (leaves ns (tag_of x)) && eqb (target_number ns (tag_of x)) k)

  abbrev Apart : List Traced → Type 0
  Apart u = (k : ℕ) → total (held k) u ≤ most k

  apart_begin : (s : List Event) → length ns ≡ length s → Once ns → Apart (number 1 s)
  apart_begin s l o k =
      let a = begins ns (held k) (kept_at k) (λ i e. refl) 0 s ns l (from_start 0 ns) in
      let b = times_most k ns o in
      omega arith

  no_held : (c : Bool) → bit (c && false) ≡ 0
  no_held true = refl
  no_held false = refl

  held_none : (k : ℕ) (u : List Traced) → has k (targets ns u) ≡ false → total (held k) u ≡ 0
  held_none k [] h = refl
  held_none k (x ∷ u) h = go (eqb k (target_number ns (tag_of x))) refl h (held_none k u)
    where
      go : (c : Bool) → eqb k (target_number ns (tag_of x)) ≡ c → (c || has k (targets ns u)) ≡ false → (has k (targets ns u) ≡ false → total (held k) u ≡ 0)
          → held k x + total (held k) u ≡ 0
      go true q h ih = absurd (false≢true (sym h))
      go false q h ih =
          let ne = eqb-false k (target_number ns (tag_of x)) q in
          let a : held k x ≡ 0 = rw (ne_eqb (target_number ns (tag_of x)) k (λ e. ne (sym e))) (no_held (not (leaves ns (tag_of x)))) in
          let b = ih h in
          omega arith

  held_one : (x : Traced) → leaves ns (tag_of x) ≡ false → held (target_number ns (tag_of x)) x ≡ 1
  held_one x g = rw (g, eq-eqb (target_number ns (tag_of x)) (target_number ns (tag_of x)) refl)

  most_le : (k : ℕ) → most k ≤ 1
  most_le zero = omega arith
  most_le (suc k) = omega arith

  -- ---- where nothing is gone and no place is against the order, the numbers rise

  standing : (u : List Traced) → any_gone ns u ≡ false → Each (Stands ns) u
  standing [] h = tt
  standing (x ∷ u) h = go (leaves ns (tag_of x)) refl h (standing u)
    where
      go : (c : Bool) → leaves ns (tag_of x) ≡ c → (c || any_gone ns u) ≡ false → (any_gone ns u ≡ false → Each (Stands ns) u) → Each (Stands ns) (x ∷ u)
      go true q h ih = absurd (false≢true (sym h))
      go false q h ih = (q, ih h)

  not_found : (c : Bool) (o : Option ℕ) → here_or_later c o ≡ none → (c ≡ false) × (o ≡ none)
  not_found true o h = absurd (some-ne-none zero h)
  not_found false none h = (refl, refl)
  not_found false (some i) h = absurd (some-ne-none (suc i) h)

  rises : (x : Traced) (u : List Traced) → Each (Stands ns) (x ∷ u) → Apart (x ∷ u) → against ns (x ∷ u) ≡ none → Rises ns (target_number ns (tag_of x)) u
  rises x [] g a h = tt
  rises x (y ∷ u) g a h =
      let m = target_number ns (tag_of x) in
      let n = target_number ns (tag_of y) in
      let q = not_found (overtakes ns (tag_of x) (tag_of y)) (against ns (y ∷ u)) h in
      let c : ltb n m ≡ false = rw g.1.0 at q.0 in
      let d = ltb-false n m c in
      let b = a m in
      let e = held_one x g.0 in
      let f = most_le m in
      let ne : n ≡ m → ⊥ = λ z. let i : held m y ≡ 1 = rw (← z) (held_one y g.1.0) in omega arith in
      (omega arith, rises y u g.1 (λ k. let i = a k in omega arith) q.1)

  rises_all : (u : List Traced) → Each (Stands ns) u → Apart u → against ns u ≡ none → Rises ns 0 u
  rises_all [] g a h = tt
  rises_all (x ∷ u) g a h =
      let ne : target_number ns (tag_of x) ≡ 0 → ⊥ = λ z. let i : held 0 x ≡ 1 = rw (← z) (held_one x g.0) in let j = a 0 in omega arith in
      (omega arith, rises x u g a h)

  -- ---- along a replay

  module _ (view : Event → View) where
    at_total : (f : Traced → ℕ) (d : ℕ) (g : List Traced → List Traced → Option (List Traced))
        → ((b u v : List Traced) → g b u ≡ some v → total f v ≡ d + total f u)
        → (i : ℕ) (b u v : List Traced) → at i g b u ≡ some v → total f v ≡ d + total f u
    at_total f d g e zero b u v h = e b u v h
    at_total f d g e (suc i) b [] v h = absurd (none-ne-some v h)
    at_total f d g e (suc i) b (x ∷ u) v h = go (at i g (x ∷ b) u) h (at_total f d g e i (x ∷ b) u)
      where
        go : (o : Option (List Traced)) → under x o ≡ some v → ((w : List Traced) → o ≡ some w → total f w ≡ d + total f u) → total f v ≡ d + (f x + total f u)
        go none h ih = absurd (none-ne-some v h)
        go (some w) h ih = let j = ih w refl in rw (← some-injective (x ∷ w) v h) (omega arith)

    total_swapped : (f : Traced → ℕ) (b u v : List Traced) → swapped view b u ≡ some v → total f v ≡ 0 + total f u
    total_swapped f b [] v h = absurd (none-ne-some v h)
    total_swapped f b (x ∷ []) v h = absurd (none-ne-some v h)
    total_swapped f b (x ∷ y ∷ u) v h =
        let r = through (may_swap (viewed view) x y) (y ∷ x ∷ u) v h in
        rw (← r.1) (omega arith)

    total_inserted : (f : Traced → ℕ) (x : Traced) (b u v : List Traced) → inserted view x b u ≡ some v → total f v ≡ f x + total f u
    total_inserted f x b u v h =
        let r = through (may_insert (viewed view) b (viewed view x)) (x ∷ u) v h in
        rw (← r.1)

    apart_insert : (u : List Traced) (i : ℕ) (e : Event) → Apart u → has (suc i) (targets ns u) ≡ false → (v : List Traced)
        → ((f : Traced → ℕ) → total f v ≡ f (traced (new (suc i)) e) + total f u) → Apart v
    apart_insert u i e a m v q k = go (eqb (suc i) k) refl (q (held k)) (a k)
      where
        go : (c : Bool) → eqb (suc i) k ≡ c → total (held k) v ≡ bit (eqb (suc i) k) + total (held k) u → total (held k) u ≤ most k → total (held k) v ≤ most k
        go true c q l =
            let z : suc i ≡ k = eqb-true (suc i) k c in
            let n : total (held k) u ≡ 0 = rw z at (held_none (suc i) u m) in
            let b : most k ≡ 1 = rw (← z) in
            let d : bit (eqb (suc i) k) ≡ 1 = rw c in
            omega arith
        go false c q l = let d : bit (eqb (suc i) k) ≡ 0 = rw c in omega arith

    module _ (t : List Event) (l : Each (λ e. T (lawful e)) t) where
      -- what comes after the removals leaves events apart
      apart_other : (u v : List Traced) → Apart u → (st : Step) → ((k : ℕ) → st ≡ Insert k → has k (targets ns u) ≡ false)
          → (phased : (i k : ℕ) → st ≡ Remove i k → ⊥)
          → applied view t st u ≡ some v → Apart v
      apart_other u v a (Remove i k) m p h = absurd (p i k refl)
      apart_other u v a (Swap zero) m p h = absurd (none-ne-some v h)
      apart_other u v a (Swap (suc i)) m p h = λ k. let q = at_total (held k) 0 (swapped view) (total_swapped (held k)) i [] u v h in let b = a k in omega arith
      apart_other u v a (Insert zero) m p h = absurd (none-ne-some v h)
      apart_other u v a (Insert (suc i)) m p h =
          let x = traced (new (suc i)) (get_or t i no_event) in
          let r = passed (ltb i (length t) && ltb (length u) event_limit) (at i (inserted view x) [] u) v h in
          apart_insert u i (get_or t i no_event) a (m (suc i) refl) v
          (λ f. at_total f (f x) (inserted view x) (total_inserted f x) i [] u v r.1)
      apart_other u v a Done m p h = absurd (none-ne-some v h)
      apart_other u v a Stuck m p h = absurd (none-ne-some v h)

      missing_phase : (u : List Traced) (i k : ℕ) → missing ns (length t) 1 u ≡ Remove i k → ⊥
      missing_phase u i k h =
          let e : two ≡ one = sym (phase_missing view ns (length t) 1 u) ∙ ap phase h in
          let z : ◌≡◌ {A = ℕ} 0 1 = cc in
          omega arith

      apart_two : (u v : List Traced) → Apart u → Each (Stands ns) u → (o : Option ℕ) → against ns u ≡ o
          → applied view t (swap_step o (missing ns (length t) 1 u)) u ≡ some v → Apart v
      apart_two u v a g (some i) e h =
          apart_other u v a (Swap (suc i)) (λ k q. let z : ◌≡◌ {A = ℕ} 0 1 = cc in absurd (omega arith))
          (λ j k q. let z : ◌≡◌ {A = ℕ} 0 1 = cc in omega arith) h
      apart_two u v a g none e h =
          apart_other u v a (missing ns (length t) 1 u)
          (λ k q. (least_missing ns (length t) 0 1 k u refl (rises_all u g a e) q).1) (missing_phase u) h

      apart_step : (u v : List Traced) → Apart u → applied view t (next_step view ns (length t) u) u ≡ some v → Apart v
      apart_step u v a h = go (any_gone ns u) refl
        where
          go : (c : Bool) → any_gone ns u ≡ c → Apart v
          go true c = λ k. let i = less_one view (held k) (move_one view ns t l u v c h) in let j = a k in omega arith
          go false c = apart_two u v a (standing u c) (against ns u) refl (rw c at h)

      apart_along : {u w : List Traced} → Along view ns t u w → Apart u → Apart w
      apart_along here a = a
      apart_along (on {u = u} {v = v} h r) a = apart_along r (apart_step u v a h)

      -- what the next insertion says
      inserts : (n : ℕ) (u : List Traced) (k : ℕ) → next_step view ns n u ≡ Insert k
          → (any_gone ns u ≡ false) × (against ns u ≡ none) × (missing ns n 1 u ≡ Insert k)
      inserts n u k h = go (any_gone ns u) (removal view ns [] u) (against ns u) h
        where
          go : (c : Bool) (o p : Option ℕ) → cond c (remove_step u o) (swap_step p (missing ns n 1 u)) ≡ Insert k
              → (c ≡ false) × (p ≡ none) × (missing ns n 1 u ≡ Insert k)
          go true none p h = let z : ◌≡◌ {A = ℕ} 0 1 = cc in absurd (omega arith)
          go true (some i) p h = let z : ◌≡◌ {A = ℕ} 0 1 = cc in absurd (omega arith)
          go false o none h = (refl, refl, h)
          go false o (some i) h = let z : ◌≡◌ {A = ℕ} 0 1 = cc in absurd (omega arith)

      -- of every insertion in a replay from the source: no event has its number, and all smaller numbers stand
      pub least_first : (s : List Event) → length ns ≡ length s → Once ns → {u : List Traced} → Along view ns t (number 1 s) u → (k : ℕ)
          → next_step view ns (length t) u ≡ Insert k
          → (has k (targets ns u) ≡ false) × ((j : ℕ) → 1 ≤ j → j < k → has j (targets ns u) ≡ true)
      least_first s e o {u} r k h =
          let q = inserts (length t) u k h in
          let p = least_missing ns (length t) 0 1 k u refl
          (rises_all u (standing u q.0) (apart_along r (apart_begin s e o)) q.1) q.2 in
          (p.1, p.2)
