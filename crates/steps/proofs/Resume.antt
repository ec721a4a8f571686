-- After the next swap nothing is gone, and before the place next to it nothing stands against the order: so the next step is found from there on.
-- Assumes nothing.
use mathlib.Core.Path.{◌≡◌, refl, sym, ◌∙◌, ap}
use mathlib.Core.Bool.{Bool, true, false, cond}
use mathlib.Core.Option.{Option, none, some, some-injective, none-ne-some}
use mathlib.Core.List.{List, [], ◌∷◌}
use Prim.Native.Nat.{ℕ, zero, suc, ◌-◌}
use native.Mathlib.Omega.{arith}
use lib.Dec.{eqb, ltb}
use lib.ListN.{length, drop}
use Rattle.event.specs.declared.Event.{Event}
use Rattle.rules.specs.View.{View}
use Rattle.rules.specs.Moves.{two}
use Rattle.rules.specs.Run.{Traced, tag_of}
use Rattle.changes.specs.Change.{applied, at, swapped, under}
use Rattle.changes.specs.declared.Step.{Step}
use Rattle.changes.specs.declared.Step.TheVariants.{Remove, Swap, Insert, Done, Stuck}
use Rattle.changes.proofs.Allow.{at_move, swapped_move}
use Rattle.steps.specs.Play.{next_from_by, swap_place}
use Rattle.course.specs.Step.{against, any_gone, here_or_later, missing, next_step, overtakes, removal, remove_step, shifted, swap_step, target_number}
use Rattle.course.proofs.Runs.{still_none}
use Rattle.steps.specs.Promise.{Resumed}

pub unshifted : (o : Option ℕ) → shifted 0 o ≡ o
unshifted none = refl
unshifted (some i) = ap some (omega arith)

one_further : (i : ℕ) (o : Option ℕ) → here_or_later false (shifted i o) ≡ shifted (suc i) o
one_further i none = refl
one_further i (some j) = ap some (omega arith)

found_later : (c : Bool) (o : Option ℕ) (i : ℕ) → here_or_later c o ≡ some (suc i) → (c ≡ false) × (o ≡ some i)
found_later true o i h = let z : ◌≡◌ {A = ℕ} 0 (suc i) = some-injective 0 (suc i) h in absurd (omega arith)
found_later false none i h = absurd (none-ne-some (suc i) h)
found_later false (some j) i h = let e : suc j ≡ suc i = some-injective (suc j) (suc i) h in (refl, ap some (omega arith))

under_is : (x : Traced) (o : Option (List Traced)) (v : List Traced) → under x o ≡ some v → (w : List Traced) × (o ≡ some w) × (v ≡ x ∷ w)
under_is x none v h = absurd (none-ne-some v h)
under_is x (some w) v h = (w, refl, sym (some-injective (x ∷ w) v h))

module _ (look : Event → View) (ns : List ℕ) where
  kept_order : (i : ℕ) (b u v : List Traced) → against ns u ≡ some i → at i (swapped look) b u ≡ some v
      → against ns v ≡ shifted (i - 1) (against ns (drop (i - 1) v))
  kept_order zero b u v h k = sym (unshifted (against ns v))
  kept_order (suc zero) b u v h k = sym (unshifted (against ns v))
  kept_order (suc (suc i)) b [] v h k = absurd (none-ne-some v k)
  kept_order (suc (suc i)) b (x ∷ []) v h k = absurd (none-ne-some v k)
  kept_order (suc (suc i)) b (x ∷ y ∷ u) v h k =
      let p = under_is x (under y (at i (swapped look) (y ∷ x ∷ b) u)) v k in
      let q = under_is y (at i (swapped look) (y ∷ x ∷ b) u) p.0 p.1 in
      let f = found_later (overtakes ns (tag_of x) (tag_of y)) (against ns (y ∷ u)) (suc i) h in
      let e : v ≡ x ∷ y ∷ q.0 = p.2 ∙ ap (λ w. x ∷ w) q.2 in
      let r = kept_order (suc i) (x ∷ b) (y ∷ u) (y ∷ q.0) f.1 (ap (under y) q.1) in
      let z : suc i - 1 ≡ i = omega arith in
      let z' : suc (suc i) - 1 ≡ suc i = omega arith in
      rw (e, z', f.0) (ap (here_or_later false) r ∙ (ap (λ j. here_or_later false (shifted j (against ns (drop j (y ∷ q.0))))) z
      ∙ one_further i (against ns (drop i (y ∷ q.0)))))

  -- what is missing is no swap
  no_swap : (n i p : ℕ) (u : List Traced) → missing ns n i u ≡ Swap p → ⊥
  no_swap n i p [] h = go (ltb n i) h
    where
      go : (c : Bool) → cond c Done (Insert i) ≡ Swap p → ⊥
      go true h = let z : ◌≡◌ {A = ℕ} 0 1 = cc in omega arith
      go false h = let z : ◌≡◌ {A = ℕ} 0 1 = cc in omega arith
  no_swap n i p (x ∷ u) h = go (eqb (target_number ns (tag_of x)) i) h (no_swap n (suc i) p u)
    where
      go : (c : Bool) → cond c (missing ns n (suc i) u) (Insert i) ≡ Swap p → (missing ns n (suc i) u ≡ Swap p → ⊥) → ⊥
      go true h ih = ih h
      go false h ih = let z : ◌≡◌ {A = ℕ} 0 1 = cc in omega arith

  -- the next step is a swap
  a_swap : (n : ℕ) (u : List Traced) (i : ℕ) → next_step look ns n u ≡ Swap (suc i) → (any_gone ns u ≡ false) × (against ns u ≡ some i)
  a_swap n u i h = go (any_gone ns u) (removal look ns [] u) (against ns u) h
    where
      go : (c : Bool) (r o : Option ℕ) → cond c (remove_step u r) (swap_step o (missing ns n 1 u)) ≡ Swap (suc i) → (c ≡ false) × (o ≡ some i)
      go true none o h = let z : ◌≡◌ {A = ℕ} 0 1 = cc in absurd (omega arith)
      go true (some j) o h = let z : ◌≡◌ {A = ℕ} 0 1 = cc in absurd (omega arith)
      go false r none h = absurd (no_swap n 1 (suc i) u h)
      go false r (some j) h = let q : suc j ≡ suc i = cc in (refl, ap some (omega arith))

module _ (look : Event → View) (s t : List Event) (ns : List ℕ) where
  -- after the step that was next, the same is found from its place on
  pub resumed : (st : Step) (u v : List Traced) → next_step look ns (length t) u ≡ st → applied look t st u ≡ some v
      → next_from_by look s t ns (swap_place st) v ≡ next_from_by look s t ns 0 v
  resumed (Remove i k) u v h a = refl
  resumed (Swap zero) u v h a = refl
  resumed (Swap (suc i)) u v h a =
      let q = a_swap look ns (length t) u i h in
      let m = at_move look two (swapped look) (swapped_move look two) i [] u v a in
      let g = still_none look ns m q.0 in
      let k = kept_order look ns i [] u v q.1 a in
      rw g (ap (λ o. swap_step o (missing ns (length t) 1 v)) (sym k))
  resumed (Insert i) u v h a = refl
  resumed Done u v h a = refl
  resumed Stuck u v h a = refl

-- ---- asking from the last swap's place on

pub resumes : Resumed
resumes look s t ns u v h = resumed look s t ns (next_step look ns (length t) u) u v refl h
