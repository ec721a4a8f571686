-- A replay is a run, and there is one. Assumes nothing.
use mathlib.Core.Path.{◌≡◌, refl, sym, ◌∙◌, ap, subst}
use mathlib.Core.Bool.{Bool, true, false, cond, ◌||◌, false≢true}
use mathlib.Core.Option.{Option, none, some, some-injective, none-ne-some}
use mathlib.Core.List.{List, [], ◌∷◌}
use Prim.Native.Nat.{ℕ, suc}
use lib.Dec.{T, eqb, ltb}
use lib.ListN.{length}
use Rattle.laws.proofs.Lists.{Each}
use Rattle.kinds.specs.Kind.{lawful}
use Rattle.event.specs.declared.Event.{Event}
use Rattle.rules.specs.View.{View}
use Rattle.rules.specs.Moves.{one, two, Moves, Run, insert, swap, next, done, step}
use Rattle.rules.specs.Run.{old, new, Traced, traced, tag_of, changes}
use Rattle.changes.specs.Change.{phase, applied}
use Rattle.changes.specs.declared.Step.{Step}
use Rattle.changes.specs.declared.Step.TheVariants.{Insert, Done}
use Rattle.changes.proofs.Allow.{Shift, allowed}
use Rattle.course.specs.Step.{leaves, any_gone, against, missing, removal, remove_step, swap_step, next_step, Replays, ended, stepped, target_number}
use Rattle.course.specs.Promise.{OneReplay}

module _ (view : Event → View) where
  -- the phase of the next step is decided by whether anything is gone
  phase_remove : (t : List Event) (u v : List Traced) (o : Option ℕ) → applied view t (remove_step u o) u ≡ some v → phase (remove_step u o) ≡ one
  phase_remove t u v none h = absurd (none-ne-some v h)
  phase_remove t u v (some i) h = refl

  pub phase_missing : (ns : List ℕ) (n i : ℕ) (u : List Traced) → phase (missing ns n i u) ≡ two
  phase_missing ns n i [] = go (ltb n i)
    where
      go : (c : Bool) → phase (cond c Done (Insert i)) ≡ two
      go true = refl
      go false = refl
  phase_missing ns n i (x ∷ u) = go (eqb (target_number ns (tag_of x)) i) (missing ns n (suc i) u) (phase_missing ns n (suc i) u)
    where
      go : (c : Bool) (r : Step) → phase r ≡ two → phase (cond c r (Insert i)) ≡ two
      go true r h = h
      go false r h = refl

  pub phase_other : (o : Option ℕ) (r : Step) → phase r ≡ two → phase (swap_step o r) ≡ two
  phase_other none r h = h
  phase_other (some i) r h = refl

  -- where nothing is gone, nothing gone comes
  pub still_none : (ns : List ℕ) {b u v : List Traced} → Shift view two b u v → any_gone ns u ≡ false → any_gone ns v ≡ false
  still_none ns (insert {e = traced (old i) e} w) h = absurd w.0
  still_none ns (insert {e = traced (new k) e} w) h = h
  still_none ns (swap {a = a} {e = e} {f = f} d) h = go (leaves ns (tag_of e)) (leaves ns (tag_of f)) h
    where
      go : (c d : Bool) → (c || (d || any_gone ns a)) ≡ false → (d || (c || any_gone ns a)) ≡ false
      go true d h = absurd (false≢true (sym h))
      go false true h = h
      go false false h = h
  still_none ns (next {s = s} {t = t} {e = e} m) h = go (leaves ns (tag_of e)) h (still_none ns m)
    where
      go : (c : Bool) → (c || any_gone ns s) ≡ false → (any_gone ns s ≡ false → any_gone ns t ≡ false) → (c || any_gone ns t) ≡ false
      go true h ih = h
      go false h ih = ih h

  module _ (ns : List ℕ) (t : List Event) (l : Each (λ e. T (lawful e)) t) where
    pub move_one : (u v : List Traced) → any_gone ns u ≡ true → applied view t (next_step view ns (length t) u) u ≡ some v → Shift view one [] u v
    move_one u v c h =
        let r = removal view ns [] u in
        let k : applied view t (remove_step u r) u ≡ some v = rw c at h in
        subst (λ φ. Shift view φ [] u v) (phase_remove t u v r k) (allowed view t l (remove_step u r) u v k)

    pub move_two : (u v : List Traced) → any_gone ns u ≡ false → applied view t (next_step view ns (length t) u) u ≡ some v → Shift view two [] u v
    move_two u v c h =
        let r = swap_step (against ns u) (missing ns (length t) 1 u) in
        let k : applied view t r u ≡ some v = rw c at h in
        subst (λ φ. Shift view φ [] u v) (phase_other (against ns u) (missing ns (length t) 1 u) (phase_missing ns (length t) 1 u)) (allowed view t l r u v k)

    twos : {k : ℕ} {u w : List Traced} → Replays view ns t k u w → any_gone ns u ≡ false → Moves (changes view) two [] u w
    twos (ended e) c = done
    twos (stepped {u = u} {v = v} h r) c = let m = move_two u v c h in step m (twos r (still_none ns m c))

    pub replays_run : {k : ℕ} {u w : List Traced} → Replays view ns t k u w → Run (changes view) u w
    replays_run (ended {u = u} e) = (u, done, done)
    replays_run (stepped {u = u} {v = v} {w = w} h r) = go (any_gone ns u) refl (replays_run r)
      where
        go : (c : Bool) → any_gone ns u ≡ c → Run (changes view) v w → Run (changes view) u w
        go true c ih = (ih.0, step (move_one u v c h) ih.1, ih.2)
        go false c ih = let m = move_two u v c h in (u, done, step m (twos r (still_none ns m c)))

-- there is one replay
pub one_replay : OneReplay
one_replay look ns t k k' u w w' (ended e) (ended e') = (refl, refl)
one_replay look ns t k k' u w w' (ended e) (stepped {v = v} h r) = absurd (none-ne-some v (subst (λ st. applied look t st u ≡ some v) e h))
one_replay look ns t k k' u w w' (stepped {v = v} h r) (ended e) = absurd (none-ne-some v (subst (λ st. applied look t st u ≡ some v) e h))
one_replay look ns t k k' u w w' (stepped {k = i} {v = v} h r) (stepped {k = j} {v = v'} h' r') =
    let q : v' ≡ v = some-injective v' v (sym h' ∙ h) in
    let n = one_replay look ns t i j v w w' r (subst (λ z. Replays look ns t j z w') q r') in
    (ap suc n.0, n.1)
