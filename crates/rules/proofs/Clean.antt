-- What an answer says: the source's and the target's answers accept exactly where no event shows a fault, as a statement. An answer goes on to the
-- next event only where all tests of this one fail. Assumes nothing.
use mathlib.Core.Path.{◌≡◌, refl, ◌∙◌}
use mathlib.Core.Bool.{Bool, true, false, not, cond}
use mathlib.Core.List.{List, [], ◌∷◌}
use Prim.Native.Nat.{ℕ, suc}
use lib.Dec.{T, T_not, eqb}
use Rattle.laws.proofs.Lists.{Each}
use Rattle.event.specs.declared.Event.{Event}
use Rattle.event.specs.Answer.{done, first}
use Rattle.event.specs.declared.Answer.{Answer}
use Rattle.kinds.specs.Kind.{is_load_kind}
use Rattle.rules.specs.Fault.{Item, crossed, fate, item, load_gone, store_gone, unlike, unsupported, wall_gone}
use Rattle.rules.specs.View.{View}
use Rattle.rules.specs.Verdict.{first_fault, items, keep_fault, target_item, removal_fault, source_answer, source_fault, target_answer, target_fault}
use Rattle.rules.proofs.Item.{Clash, Sound, Sound₁, Supported, Ordered}
use Rattle.rules.proofs.Test.{crossed_test, extra_test, lost_test}
use Rattle.rules.proofs.Truth.{T_true, taken}

-- ---- answers

-- an answer that goes on where another one's number is 0
onward : (c : Bool) (q r : Answer) → eqb q.number 0 ≡ c → T (eqb (cond c r q).number 0) → T c × T (eqb r.number 0)
onward true q r e h = (tt, h)
onward false q r e h = absurd (rw e at h)

-- of two answers both accept
pub both : (a b : Answer) → T (eqb (first a b).number 0) → T (eqb a.number 0) × T (eqb b.number 0)
both a b h = go (eqb a.number 0) refl h
  where
    go : (c : Bool) → eqb a.number 0 ≡ c → T (eqb (cond c b a).number 0) → T (eqb a.number 0) × T (eqb b.number 0)
    go true e h = (rw e tt, h)
    go false e h = absurd (rw e at h)

-- ---- faults

-- a test that gives a fault if it succeeds, and what is given if it fails
passed : (c : Bool) (n k : ℕ) → T (not (eqb n 0)) → T (eqb (cond c n k) 0) → T (not c) × T (eqb k 0)
passed true n k h g = absurd (T_not (eqb n 0) h g)
passed false n k h g = (tt, g)

pass : (c : Bool) (n k : ℕ) → T (not c) → T (eqb k 0) → T (eqb (cond c n k) 0)
pass true n k h g = absurd h
pass false n k h g = g

-- of two faults neither
neither : (f g : ℕ) → T (eqb (first_fault f g) 0) → T (eqb f 0) × T (eqb g 0)
neither f g h = go (eqb f 0) refl h
  where
    go : (c : Bool) → eqb f 0 ≡ c → T (eqb (cond c g f) 0) → T (eqb f 0) × T (eqb g 0)
    go true e h = (rw e tt, h)
    go false e h = absurd (rw e at h)

nor : (f g : ℕ) → T (eqb f 0) → T (eqb g 0) → T (eqb (first_fault f g) 0)
nor f g h k = rw (T_true (eqb f 0) h) k

some_fault : (kind : ℕ) → T (not (eqb (cond (is_load_kind kind) 16 15) 0))
some_fault kind = go (is_load_kind kind)
  where
    go : (c : Bool) → T (not (eqb (cond c 16 15) 0))
    go true = tt
    go false = tt

-- no fault 10
abbrev pub Faithful : List Event → List Event → List ℕ → Type 0
Faithful t [] ns = Unit {0}
Faithful t (e ∷ s) [] = Unit {0}
Faithful t (e ∷ s) (n ∷ ns) = T (not (unlike t e (fate n))) × Faithful t s ns

-- no source event shows a fault
pub record Clean (view : Event → View) (t : List Event) (b : List Item) (s : List Event) (ns : List ℕ) : Type 0 where
  pub faithful : Faithful t s ns
  pub sound : Sound b (items view s ns)
  pub ordered : Ordered b (items view s ns)

module _ (view : Event → View) where
  -- ---- the source

  -- no fault 10 to 14 at a source event
  abbrev Clean₁ : List Event → List Item → Event → ℕ → List Item → Type 0
  Clean₁ t b e n a =
      T (not (unlike t e (fate n))) × Sound₁ b (item (view e) (fate n)) a × Each (λ y. Clash y (item (view e) (fate n))) b

  module _ (t : List Event) (b : List Item) (e : Event) (n : ℕ) (a : List Item) where
    abbrev x : Item
    x = item (view e) (fate n)

    clean₁ : T (eqb (source_fault t b e x a) 0) → Clean₁ t b e n a
    clean₁ h =
        let f = neither (keep_fault t b e x) (removal_fault b x a) h in
        let f10 = passed (unlike t e (fate n)) _ _ tt f.0 in
        let f11 = passed (wall_gone x) _ _ tt f10.1 in
        let f12 = passed (crossed b x) _ _ tt f11.1 in
        let f13 = passed (load_gone b x) _ _ tt f.1 in
        let f14 = passed (store_gone b x a) _ _ tt f13.1 in
        (f10.0, (lost_test b x a).0 (f11.0, f13.0, f14.0), (crossed_test b x).0 f12.0)

    clean₁' : Clean₁ t b e n a → T (eqb (source_fault t b e x a) 0)
    clean₁' f =
        let l = (lost_test b x a).1 f.1 in
        nor (keep_fault t b e x) (removal_fault b x a)
        (pass (unlike t e (fate n)) _ _ f.0 (pass (wall_gone x) _ _ l.0 (pass (crossed b x) _ _ ((crossed_test b x).1 f.2) tt)))
        (pass (load_gone b x) _ _ l.1 (pass (store_gone b x a) _ _ l.2 tt))

  pub source_clean : (t : List Event) (i : ℕ) (b : List Item) (s : List Event) (ns : List ℕ) → T (eqb (source_answer view t i b s ns).number 0)
      → Clean view t b s ns
  unfolding source_answer
  source_clean t i b [] ns h = record { faithful = tt; sound = tt; ordered = tt }
  source_clean t i b (e ∷ s) [] h = record { faithful = tt; sound = tt; ordered = tt }
  source_clean t i b (e ∷ s) (n ∷ ns) h =
      let x = item (view e) (fate n) in
      let q = onward (eqb (source_fault t b e x (items view s ns)) 0) _ (source_answer view t (suc i) (x ∷ b) s ns) refl h in
      let f = clean₁ t b e n (items view s ns) q.0 in
      let r = source_clean t (suc i) (x ∷ b) s ns q.1 in
      record { faithful = (f.0, r.faithful); sound = (f.1, r.sound); ordered = (f.2, r.ordered) }

  pub clean_source : (t : List Event) (i : ℕ) (b : List Item) (s : List Event) (ns : List ℕ) → Clean view t b s ns → source_answer view t i b s ns ≡ done
  unfolding source_answer
  clean_source t i b [] ns h = refl
  clean_source t i b (e ∷ s) [] h = refl
  clean_source t i b (e ∷ s) (n ∷ ns) h =
      let x = item (view e) (fate n) in
      let k = source_fault t b e x (items view s ns) in
      taken (source_answer view t (suc i) (x ∷ b) s ns) _ (eqb k 0) (clean₁' t b e n (items view s ns) (h.faithful.0, h.sound.0, h.ordered.0))
      ∙ clean_source t (suc i) (x ∷ b) s ns (record { faithful = h.faithful.1; sound = h.sound.1; ordered = h.ordered.1 })

  -- ---- the target

  -- the target's events as items: each at its number, new if no entry names it
  abbrev pub target_items : List ℕ → ℕ → List Event → List Item
  target_items ns k [] = []
  target_items ns k (e ∷ t) = target_item view ns k e ∷ target_items ns (suc k) t

  pub target_clean : (ns : List ℕ) (k : ℕ) (b : List Item) (t : List Event) → T (eqb (target_answer view ns k b t).number 0) → Supported b (target_items ns k t)
  unfolding target_answer
  target_clean ns k b [] h = tt
  target_clean ns k b (e ∷ t) h =
      let x = target_item view ns k e in
      let q = onward (eqb (target_fault e.kind b x) 0) _ (target_answer view ns (suc k) (x ∷ b) t) refl h in
      ((extra_test b x).0 (passed (unsupported b x) _ _ (some_fault e.kind) q.0).0, target_clean ns (suc k) (x ∷ b) t q.1)

  pub clean_target : (ns : List ℕ) (k : ℕ) (b : List Item) (t : List Event) → Supported b (target_items ns k t) → target_answer view ns k b t ≡ done
  unfolding target_answer
  clean_target ns k b [] h = refl
  clean_target ns k b (e ∷ t) h =
      let x = target_item view ns k e in
      let f = target_fault e.kind b x in
      taken (target_answer view ns (suc k) (x ∷ b) t) _ (eqb f 0) (pass (unsupported b x) _ _ ((extra_test b x).1 h.0) tt)
      ∙ clean_target ns (suc k) (x ∷ b) t h.1
