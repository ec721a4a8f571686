-- The next step in the request's words: the gone event that is removed has the highest number of those that may be removed now, since while gone events
-- remain the trace is a part of the source; and what is inserted has the least number that no event has. Assumes nothing.
use mathlib.Core.Path.{◌≡◌, refl, sym, ◌∙◌, ap, subst}
use mathlib.Core.Bool.{Bool, true, false, cond, ◌&&◌, ◌||◌, false≢true}
use mathlib.Core.Option.{Option, none, some, some-injective, none-ne-some, some-ne-none}
use mathlib.Core.List.{List, [], ◌∷◌, map}
use Prim.Native.Nat.{ℕ, zero, suc, ◌<◌, ◌≤◌}
use native.Mathlib.Omega.{arith}
use lib.Dec.{T, eqb, ltb}
use lib.ListN.{length}
use borrow.Author.Tests.{eqb-true, eqb-false, ne_eqb}
use Rattle.laws.proofs.Lists.{Each}
use Rattle.laws.specs.Has.{has}
use Rattle.kinds.specs.Kind.{lawful}
use Rattle.event.specs.declared.Event.{Event}
use Rattle.rules.specs.View.{View}
use Rattle.rules.specs.Moves.{Removable, one, two}
use Rattle.rules.specs.Run.{Traced, tag_of, number, viewed}
use Rattle.changes.specs.Allowed.{may_remove}
use Rattle.changes.specs.Change.{is_source, removed, applied, under, at, phase}
use Rattle.changes.specs.declared.Step.TheVariants.{Remove, Insert, Done}
use Rattle.changes.proofs.Allow.{through}
use Rattle.changes.proofs.May.{if_removable}
use Rattle.course.specs.Step.{leaves, source_number, target_number, any_gone, against, missing, number_at, later_or_here, removal, remove_step}
use Rattle.course.specs.Step.{swap_step, next_step}
use Rattle.course.proofs.Runs.{move_two, still_none, phase_other, phase_missing}
use Rattle.course.proofs.Insert.{Rises}

-- source numbers rise, above a number
abbrev pub Ascends : ℕ → List Traced → Type 0
Ascends m [] = Unit {0}
Ascends m (x ∷ u) = (m < source_number (tag_of x)) × Ascends (source_number (tag_of x)) u

ascends_source : (i : ℕ) (s : List Event) → Ascends i (number (suc i) s)
ascends_source i [] = tt
ascends_source i (e ∷ s) = (omega arith, ascends_source (suc i) s)

ascends_less : (m n : ℕ) (u : List Traced) → m ≤ n → Ascends n u → Ascends m u
ascends_less m n [] l h = tt
ascends_less m n (x ∷ u) l h = let k = h.0 in (omega arith, h.1)

module _ (view : Event → View) (ns : List ℕ) where
  -- every gone event that may be removed has at most the number k
  abbrev pub Highest : ℕ → List Traced → List Traced → Type 0
  Highest k b [] = Unit {0}
  Highest k b (x ∷ a) =
      (T (leaves ns (tag_of x)) → Removable (viewed view) b (viewed view x) a → source_number (tag_of x) ≤ k) × Highest k (x ∷ b) a

  none_highest : (k : ℕ) (b u : List Traced) → removal view ns b u ≡ none → Highest k b u
  none_highest k b [] h = tt
  none_highest k b (x ∷ a) h =
      go (removal view ns (x ∷ b) a) (leaves ns (tag_of x)) (may_remove (viewed view) b (viewed view x) a) refl
      (if_removable (viewed view) b (viewed view x) a).1 h (none_highest k (x ∷ b) a)
    where
      go : (o : Option ℕ) (c d : Bool) → removal view ns (x ∷ b) a ≡ o → {X : Type 0} → (X → T d) → later_or_here o (c && d) ≡ none
          → (removal view ns (x ∷ b) a ≡ none → Highest k (x ∷ b) a) → (T c → X → source_number (tag_of x) ≤ k) × Highest k (x ∷ b) a
      go (some i) c d e f h ih = absurd (some-ne-none (suc i) h)
      go none true true e f h ih = absurd (some-ne-none zero h)
      go none true false e f h ih = (λ g y. absurd (f y), ih e)
      go none false d e f h ih = (λ g y. absurd g, ih e)

  highest₁ : (m i : ℕ) (b u : List Traced) → Ascends m u → removal view ns b u ≡ some i → (m < number_at u i) × Highest (number_at u i) b u
  highest₁ m i b [] l h = absurd (none-ne-some i h)
  highest₁ m i b (x ∷ a) l h =
      go (removal view ns (x ∷ b) a) (leaves ns (tag_of x) && may_remove (viewed view) b (viewed view x) a) refl h
      (λ j. highest₁ (source_number (tag_of x)) j (x ∷ b) a l.1) (none_highest (source_number (tag_of x)) (x ∷ b) a)
    where
      go : (o : Option ℕ) (c : Bool) → removal view ns (x ∷ b) a ≡ o → later_or_here o c ≡ some i
          → ((j : ℕ) → removal view ns (x ∷ b) a ≡ some j → (source_number (tag_of x) < number_at a j) × Highest (number_at a j) (x ∷ b) a)
          → (removal view ns (x ∷ b) a ≡ none → Highest (source_number (tag_of x)) (x ∷ b) a)
          → (m < number_at (x ∷ a) i) × Highest (number_at (x ∷ a) i) b (x ∷ a)
      go (some j) c e h f g =
          let q : suc j ≡ i = some-injective (suc j) i h in
          let k = f j e in
          let k0 = k.0 in
          let l0 = l.0 in
          subst (λ p. (m < number_at (x ∷ a) p) × Highest (number_at (x ∷ a) p) b (x ∷ a)) q (omega arith, (λ y z. omega arith, k.1))
      go none true e h f g = let q : zero ≡ i = some-injective zero i h in
          subst (λ p. (m < number_at (x ∷ a) p) × Highest (number_at (x ∷ a) p) b (x ∷ a)) q (l.0, (λ y z. omega arith, g e))
      go none false e h f g = absurd (none-ne-some i h)

  -- while a removal is next, something is gone
  gone_next : (n : ℕ) (u : List Traced) (p k : ℕ) → next_step view ns n u ≡ Remove p k → any_gone ns u ≡ true
  gone_next n u p k h = go (any_gone ns u) h
    where
      go : (c : Bool) → cond c (remove_step u (removal view ns [] u)) (swap_step (against ns u) (missing ns n 1 u)) ≡ Remove p k → c ≡ true
      go true h = refl
      go false h =
          let e : two ≡ one = sym (phase_other view (against ns u) (missing ns n 1 u) (phase_missing view ns n 1 u)) ∙ ap phase h in
          let z : ◌≡◌ {A = ℕ} 0 1 = cc in
          absurd (omega arith)

  -- the next removal is the highest-numbered
  pub highest : (n : ℕ) (u : List Traced) (p k : ℕ) → Ascends 0 u → next_step view ns n u ≡ Remove p k → Highest k [] u
  highest n u p k l h = go (removal view ns [] u) refl (rw (gone_next n u p k h) at h)
    where
      go : (o : Option ℕ) → removal view ns [] u ≡ o → remove_step u o ≡ Remove p k → Highest k [] u
      go none e h = let z : ◌≡◌ {A = ℕ} 0 1 = cc in absurd (omega arith)
      go (some i) e h = let q : number_at u i ≡ k = cc in rw (← q) (highest₁ 0 i [] u l e).1

  -- ---- while gone events remain, the trace is a part of the source

  ascends_at : (k i m : ℕ) (b u v : List Traced) → at i (removed view k) b u ≡ some v → Ascends m u → Ascends m v
  ascends_at k zero m b [] v h l = absurd (none-ne-some v h)
  ascends_at k zero m b (x ∷ a) v h l =
      let r = through (is_source k (tag_of x) && may_remove (viewed view) b (viewed view x) a) a v h in
      let l0 = l.0 in
      rw (← r.1) (ascends_less m (source_number (tag_of x)) a (omega arith) l.1)
  ascends_at k (suc i) m b [] v h l = absurd (none-ne-some v h)
  ascends_at k (suc i) m b (x ∷ u) v h l = go (at i (removed view k) (x ∷ b) u) h (ascends_at k i (source_number (tag_of x)) (x ∷ b) u)
    where
      go : (o : Option (List Traced)) → under x o ≡ some v → ((w : List Traced) → o ≡ some w → Ascends (source_number (tag_of x)) u
          → Ascends (source_number (tag_of x)) w)
          → Ascends m v
      go none h ih = absurd (none-ne-some v h)
      go (some w) h ih = rw (← some-injective (x ∷ w) v h) (l.0, ih w refl l.1)

  -- a trace that a replay comes by
  pub data Along (t : List Event) : List Traced → List Traced → Type 0 where
    here : {u : List Traced} → Along t u u
    on : {u v w : List Traced} → applied view t (next_step view ns (length t) u) u ≡ some v → Along t v w → Along t u w

  module _ (t : List Event) (l : Each (λ e. T (lawful e)) t) where
    along_none : {u w : List Traced} → Along t u w → any_gone ns u ≡ false → any_gone ns w ≡ false
    along_none here c = c
    along_none (on {u = u} {v = v} h r) c = along_none r (still_none view ns (move_two view ns t l u v c h) c)

    ascends_step : (u v : List Traced) → any_gone ns u ≡ true → applied view t (next_step view ns (length t) u) u ≡ some v → Ascends 0 u → Ascends 0 v
    ascends_step u v c h a = go (removal view ns [] u) (rw c at h)
      where
        go : (o : Option ℕ) → applied view t (remove_step u o) u ≡ some v → Ascends 0 v
        go none h = absurd (none-ne-some v h)
        go (some i) h = ascends_at (number_at u i) i 0 [] u v h a

    ascends_along : {u w : List Traced} → Along t u w → Ascends 0 u → any_gone ns w ≡ true → Ascends 0 w
    ascends_along here a g = a
    ascends_along (on {u = u} {v = v} {w = w} h r) a g = go (any_gone ns u) refl (ascends_along r)
      where
        go : (c : Bool) → any_gone ns u ≡ c → (Ascends 0 v → any_gone ns w ≡ true → Ascends 0 w) → Ascends 0 w
        go true c ih = ih (ascends_step u v c h a) g
        go false c ih = absurd (false≢true (sym (along_none {u = u} (on h r) c) ∙ g))

    -- of every removal in a replay from the source
    pub highest_first : (s : List Event) {u : List Traced} → Along t (number 1 s) u → (p k : ℕ) → next_step view ns (length t) u ≡ Remove p k → Highest k [] u
    highest_first s {u} r p k h = highest (length t) u p k (ascends_along r (ascends_source 0 s) (gone_next (length t) u p k h)) h

-- ---- the least missing number, where the numbers rise

module _ (ns : List ℕ) where
  abbrev pub targets : List Traced → List ℕ
  targets u = map (λ x. target_number ns (tag_of x)) u

  none_above : (m k : ℕ) (u : List Traced) → k ≤ m → Rises ns m u → has k (targets u) ≡ false
  none_above m k [] l r = refl
  none_above m k (x ∷ u) l r =
      let a = r.0 in
      rw (ne_eqb k (target_number ns (tag_of x)) (λ e. omega arith)) (none_above (target_number ns (tag_of x)) k u (omega arith) r.1)

  insert_is : (i k : ℕ) → Insert i ≡ Insert k → i ≡ k
  insert_is i k h = cc

  pub least_missing : (n m i k : ℕ) (u : List Traced) → suc m ≡ i → Rises ns m u → missing ns n i u ≡ Insert k
      → (i ≤ k) × (has k (targets u) ≡ false) × ((j : ℕ) → i ≤ j → j < k → has j (targets u) ≡ true)
  least_missing n m i k [] e r h = go (ltb n i) h
    where
      go : (c : Bool) → cond c Done (Insert i) ≡ Insert k → (i ≤ k) × (false ≡ false) × ((j : ℕ) → i ≤ j → j < k → false ≡ true)
      go true h = let z : ◌≡◌ {A = ℕ} 0 1 = cc in absurd (omega arith)
      go false h = let q = insert_is i k h in (omega arith, refl, λ j a b. absurd (omega arith))
  least_missing n m i k (x ∷ u) e r h = go (eqb (target_number ns (tag_of x)) i) refl h
      (λ q. least_missing n (target_number ns (tag_of x)) (suc i) k u (ap suc q) r.1)
    where
      y : ℕ
      y = target_number ns (tag_of x)

      Said : ℕ → List Traced → Type 0
      Said i u = (i ≤ k) × (has k (targets u) ≡ false) × ((j : ℕ) → i ≤ j → j < k → has j (targets u) ≡ true)

      go : (c : Bool) → eqb y i ≡ c → cond c (missing ns n (suc i) u) (Insert i) ≡ Insert k
          → (y ≡ i → missing ns n (suc i) u ≡ Insert k → Said (suc i) u) → Said i (x ∷ u)
      go true q h ih =
          let a : y ≡ i = eqb-true y i q in
          let b = ih a h in
          let b0 = b.0 in
          (omega arith, rw (ne_eqb k y (λ z. omega arith)) b.1, λ j c d. by (eqb j y) j refl a c d b.2)
        where
          by : (f : Bool) (j : ℕ) → eqb j y ≡ f → y ≡ i → i ≤ j → j < k → ((j : ℕ) → suc i ≤ j → j < k → has j (targets u) ≡ true)
              → (f || has j (targets u)) ≡ true
          by true j q a c d g = refl
          by false j q a c d g = let ne = eqb-false j y q in g j (omega arith) d
      go false q h ih =
          let a = eqb-false y i q in
          let b = insert_is i k h in
          let r0 = r.0 in
          let ne : k ≡ y → ⊥ = λ z. a (sym z ∙ sym b) in
          (omega arith, rw (ne_eqb k y ne) (none_above y k u (omega arith) r.1), λ j c d. absurd (omega arith))
