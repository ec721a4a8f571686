-- What an applied step keeps: what holds of each event and of the inserted ones, and that a trace has at most 800 events. So the numbers of the
-- trace after a step stand for that trace. Assumes nothing.
use mathlib.Core.Path.{◌≡◌, refl, ◌∙◌, ap, ap₂, subst}
use mathlib.Core.Bool.{true, ◌&&◌}
use mathlib.Core.Option.{Option, none, some, some-injective, none-ne-some}
use mathlib.Core.List.{List, [], ◌∷◌}
use Prim.Native.Nat.{ℕ, zero, suc, ◌-◌, ◌≤◌}
use native.Mathlib.Omega.{arith}
use lib.Dec.{ltb, ltb→lt}
use lib.ListN.{length, get_or, drop}
use lib.Seq.{take_at}
use borrow.Author.Tests.{le-leb}
use Rattle.laws.proofs.Lists.{Each}
use Rattle.event.specs.Room.{no_event}
use Rattle.event.specs.declared.Event.{Event}
use Rattle.rules.specs.View.{View}
use Rattle.rules.specs.Run.{new, Traced, traced, tag_of, viewed}
use Rattle.rules.proofs.Truth.{and_right}
use Rattle.changes.specs.Allowed.{may_insert, may_remove, may_swap}
use Rattle.changes.specs.Apply.{front, is_open, stands}
use Rattle.changes.specs.Change.{applied, at, inserted, is_source, removed, swapped, under}
use Rattle.changes.specs.Tags.{code, codes, trace, traced_for}
use Rattle.changes.specs.declared.Run.{Run}
use Rattle.changes.specs.declared.Step.{Step}
use Rattle.changes.specs.declared.Step.TheVariants.{Remove, Swap, Insert, Done, Stuck}
use Rattle.changes.proofs.Allow.{passed, through}
use Rattle.changes.proofs.Outcomes.{new_one}
use Rattle.changes.proofs.Traces.{code_decoded}
use Rattle.event.specs.Limit.{event_limit}

-- a relation that holds where a step happens holds of the whole
at_rel : (R : List Traced → List Traced → Type 0) → ((x : Traced) (u v : List Traced) → R u v → R (x ∷ u) (x ∷ v))
    → (f : List Traced → List Traced → Option (List Traced)) → ((b u v : List Traced) → f b u ≡ some v → R u v)
    → (i : ℕ) (b u v : List Traced) → at i f b u ≡ some v → R u v
at_rel R c f g zero b u v h = g b u v h
at_rel R c f g (suc i) b [] v h = absurd (none-ne-some v h)
at_rel R c f g (suc i) b (x ∷ u) v h = go (at i f (x ∷ b) u) h (at_rel R c f g i (x ∷ b) u)
  where
    go : (o : Option (List Traced)) → under x o ≡ some v → ((w : List Traced) → o ≡ some w → R u w) → R (x ∷ u) v
    go none h ih = absurd (none-ne-some v h)
    go (some w) h ih = subst (λ z. R (x ∷ u) z) (some-injective (x ∷ w) v h) (c x u w (ih w refl))

-- by what happens at the place
module _ (look : Event → View) (R : List Traced → List Traced → Type 0) where
  at_removed : ((x : Traced) (a : List Traced) → R (x ∷ a) a) → (k : ℕ) (b u v : List Traced) → removed look k b u ≡ some v → R u v
  at_removed g k b [] v h = absurd (none-ne-some v h)
  at_removed g k b (x ∷ a) v h =
      subst (λ z. R (x ∷ a) z) (through (is_source k (tag_of x) && may_remove (viewed look) b (viewed look x) a) a v h).1 (g x a)

  at_swapped : ((x y : Traced) (a : List Traced) → R (x ∷ y ∷ a) (y ∷ x ∷ a)) → (b u v : List Traced) → swapped look b u ≡ some v → R u v
  at_swapped g b [] v h = absurd (none-ne-some v h)
  at_swapped g b (x ∷ []) v h = absurd (none-ne-some v h)
  at_swapped g b (x ∷ y ∷ a) v h = subst (λ z. R (x ∷ y ∷ a) z) (through (may_swap (viewed look) x y) (y ∷ x ∷ a) v h).1 (g x y a)

  at_inserted : (x : Traced) → ((a : List Traced) → R a (x ∷ a)) → (b u v : List Traced) → inserted look x b u ≡ some v → R u v
  at_inserted x g b u v h = subst (λ z. R u z) (through (may_insert (viewed look) b (viewed look x)) (x ∷ u) v h).1 (g u)

-- ---- each event

module _ (look : Event → View) (P : Traced → Type 0) (t : List Event) (p : (i : ℕ) → P (traced (new (suc i)) (get_or t i no_event))) where
  abbrev Keeps : List Traced → List Traced → Type 0
  Keeps u v = Each P u → Each P v

  further : (x : Traced) (u v : List Traced) → Keeps u v → Keeps (x ∷ u) (x ∷ v)
  further x u v k h = (h.0, k h.1)

  pub each_applied : (st : Step) (u v : List Traced) → applied look t st u ≡ some v → Each P u → Each P v
  each_applied (Remove zero k) u v h = absurd (none-ne-some v h)
  each_applied (Remove (suc i) k) u v h = at_rel Keeps further (removed look k) (at_removed look Keeps (λ x a h. h.1) k) i [] u v h
  each_applied (Swap zero) u v h = absurd (none-ne-some v h)
  each_applied (Swap (suc i)) u v h = at_rel Keeps further (swapped look) (at_swapped look Keeps (λ x y a h. (h.1.0, (h.0, h.1.1)))) i [] u v h
  each_applied (Insert zero) u v h = absurd (none-ne-some v h)
  each_applied (Insert (suc i)) u v h =
      let x = traced (new (suc i)) (get_or t i no_event) in
      let r = passed (ltb i (length t) && ltb (length u) event_limit) (at i (inserted look x) [] u) v h in
      at_rel Keeps further (inserted look x) (at_inserted look Keeps x (λ a h. (p i, h))) i [] u v r.1
  each_applied Done u v h = absurd (none-ne-some v h)
  each_applied Stuck u v h = absurd (none-ne-some v h)

-- ---- how many

abbrev NoMore : List Traced → List Traced → Type 0
NoMore u v = length v ≤ length u

abbrev OneMore : List Traced → List Traced → Type 0
OneMore u v = length v ≤ suc (length u)

pub few_applied : (look : Event → View) (t : List Event) (st : Step) (u v : List Traced) → applied look t st u ≡ some v → length u ≤ event_limit
    → length v ≤ event_limit
few_applied look t (Remove zero k) u v h l = absurd (none-ne-some v h)
few_applied look t (Remove (suc i) k) u v h l =
    let e = at_rel NoMore (λ x u v k. omega arith) (removed look k) (at_removed look NoMore (λ x a. omega arith) k) i [] u v h in
    omega arith
few_applied look t (Swap zero) u v h l = absurd (none-ne-some v h)
few_applied look t (Swap (suc i)) u v h l =
    let e = at_rel NoMore (λ x u v k. omega arith) (swapped look) (at_swapped look NoMore (λ x y a. omega arith)) i [] u v h in
    omega arith
few_applied look t (Insert zero) u v h l = absurd (none-ne-some v h)
few_applied look t (Insert (suc i)) u v h l =
    let x = traced (new (suc i)) (get_or t i no_event) in
    let r = passed (ltb i (length t) && ltb (length u) event_limit) (at i (inserted look x) [] u) v h in
    let m = ltb→lt (length u) event_limit (and_right (ltb i (length t)) (ltb (length u) event_limit) r.0) in
    let e = at_rel OneMore (λ x u v k. omega arith) (inserted look x) (at_inserted look OneMore x (λ a. omega arith)) i [] u v r.1 in
    omega arith
few_applied look t Done u v h l = absurd (none-ne-some v h)
few_applied look t Stuck u v h l = absurd (none-ne-some v h)

-- ---- the numbers of a trace stand for it

pub length_codes : (u : List Traced) → length (codes u) ≡ length u
length_codes [] = refl
length_codes (x ∷ u) = ap suc (length_codes u)

abbrev pub running : List Traced → Run
running u = record { begun = true; standing = length u }

module _ (s t : List Event) where
  -- an event is that of its number
  abbrev pub Coded : Traced → Type 0
  Coded x = traced_for s t (code (tag_of x)) ≡ x

  coded_new : (i : ℕ) → Coded (traced (new (suc i)) (get_or t i no_event))
  coded_new i = let e : suc i - 1 ≡ i = omega arith in rw e (new_one s t i)

  pub coded_trace : (ks : List ℕ) → Each Coded (trace s t ks)
  coded_trace [] = tt
  coded_trace (k ∷ ks) = (ap (traced_for s t) (code_decoded k), coded_trace ks)

  trace_codes : (u : List Traced) → Each Coded u → trace s t (codes u) ≡ u
  trace_codes [] h = refl
  trace_codes (x ∷ u) h = ap₂ ◌∷◌ h.0 (trace_codes u h.1)

  pub stands_front : (u : List Traced) (A : List ℕ) → Each Coded u → stands s t (running u) (front (codes u) A) ≡ u
  stands_front u A h =
      ap (trace s t) (take_at (codes u) (drop (length (codes u)) A) (length u) (length_codes u)) ∙ trace_codes u h

  pub coded_applied : (look : Event → View) (st : Step) (ks : List ℕ) (v : List Traced) → applied look t st (trace s t ks) ≡ some v → Each Coded v
  coded_applied look st ks v h = each_applied look Coded t coded_new st (trace s t ks) v h (coded_trace ks)

pub open_running : (u : List Traced) → length u ≤ event_limit → is_open (running u) ≡ true
open_running u h = le-leb (length u) event_limit h
