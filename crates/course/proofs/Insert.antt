-- The insertions of the fixed order are the next steps, where the numbers rise. Assumes nothing.
use mathlib.Core.Path.{◌≡◌, refl, ◌∙◌, ap}
use mathlib.Core.Bool.{Bool, true, false, not, ◌&&◌}
use mathlib.Core.Option.{Option, none, some}
use mathlib.Core.List.{List, [], ◌∷◌}
use Prim.Native.Nat.{ℕ, zero, suc, ◌+◌, ◌<◌, ◌≤◌}
use native.Mathlib.Omega.{arith}
use lib.Dec.{ltb}
use lib.ListN.{length, get_or}
use borrow.Author.Tests.{le-ltb, lt-ltb, ne_eqb, eq-eqb}
use Rattle.laws.proofs.Lists.{Each}
use Rattle.event.specs.Room.{no_event}
use Rattle.event.specs.declared.Event.{Event}
use Rattle.rules.specs.View.{View}
use Rattle.rules.specs.Moves.{Insertable, Rules}
use Rattle.rules.specs.Run.{old, new, Traced, traced, tag_of, viewed, Inserted, changes, Ends}
use Rattle.rules.proofs.Fixed.{Fill, full, leave, put}
use Rattle.rules.proofs.Traced.{Genuine}
use Rattle.rules.proofs.Truth.{T_true}
use Rattle.changes.specs.Allowed.{may_insert}
use Rattle.changes.specs.Change.{inserted, applied, under, at}
use Rattle.changes.specs.declared.Step.TheVariants.{Insert}
use Rattle.changes.proofs.May.{if_insertable}
use Rattle.course.specs.Step.{leaves, target_number, against, missing, next_step, Replays, ended, stepped}
use Rattle.course.proofs.Counts.{below, inverted, total}
use Rattle.course.proofs.Tags.{Numbers, Stands, none_gone, numbers, stand, ended_at}
use Rattle.event.specs.Limit.{event_limit}

-- what stands behind b, with b in front of it again
abbrev pub onto : List Traced → List Traced → List Traced
onto [] u = u
onto (x ∷ b) u = onto b (x ∷ u)

abbrev unders : List Traced → Option (List Traced) → Option (List Traced)
unders [] o = o
unders (x ∷ b) o = unders b (under x o)

unders_some : (b u : List Traced) → unders b (some u) ≡ some (onto b u)
unders_some [] u = refl
unders_some (x ∷ b) u = unders_some b (x ∷ u)

pub fill_back : {may : Rules Traced} (P : Traced → Type 0) {b u v : List Traced} → Fill may b u v → Each P v → Each P u
fill_back P full h = tt
fill_back P (leave f) h = (h.0, fill_back P f h.1)
fill_back P (put i f) h = fill_back P f h.1

each_onto : (P : Traced → Type 0) (b u : List Traced) → Each P b → Each P u → Each P (onto b u)
each_onto P [] u h k = k
each_onto P (x ∷ b) u h k = each_onto P b (x ∷ u) h.1 (h.0, k)

module _ (ns : List ℕ) where
  abbrev pub number : Traced → ℕ
  number x = target_number ns (tag_of x)

  -- the numbers rise, above a number
  abbrev pub Rises : ℕ → List Traced → Type 0
  Rises m [] = Unit {0}
  Rises m (x ∷ u) = (m < number x) × Rises (number x) u

  -- the numbers are those up to j, the last first
  abbrev pub Below : ℕ → List Traced → Type 0
  Below j [] = j ≡ 0
  Below zero (x ∷ b) = ⊥
  Below (suc j) (x ∷ b) = (number x ≡ suc j) × Below j b

  -- then no place is against the order
  no_fall : (m k : ℕ) (c : Bool) → m < k → (not c && ltb k m) ≡ false
  no_fall m k true h = refl
  no_fall m k false h = le-ltb k m (omega arith)

  calm_rises : (m : ℕ) (u : List Traced) → Rises m u → against ns u ≡ none
  calm_rises m [] h = refl
  calm_rises m (x ∷ []) h = refl
  calm_rises m (x ∷ y ∷ u) h =
      rw (no_fall (number x) (number y) (leaves ns (tag_of y)) h.1.0, calm_rises (number x) (y ∷ u) h.1)

  -- and no pair is
  no_below : (x : Traced) (m : ℕ) (u : List Traced) → number x ≤ m → Rises m u → total (below ns x) u ≡ 0
  no_below x m [] l r = refl
  no_below x m (y ∷ u) l r =
      let k = r.0 in
      let i : below ns x y ≡ 0 = rw (no_fall (number x) (number y) (leaves ns (tag_of y)) (omega arith)) in
      let j = no_below x (number y) u (omega arith) r.1 in
      omega arith

  pub inverted_rises : (m : ℕ) (u : List Traced) → Rises m u → inverted ns u ≡ 0
  inverted_rises m [] r = refl
  inverted_rises m (x ∷ u) r = let i = no_below x (number x) u (omega arith) r.1 in let j = inverted_rises (number x) u r.1 in omega arith

  pub rises_numbers : (j k : ℕ) (u : List Traced) → Numbers ns k u → suc j ≡ k → Rises j u
  rises_numbers j k [] h e = tt
  rises_numbers j k (x ∷ u) h e = let i = h.0 in (omega arith, rises_numbers (number x) (suc k) u h.1 (omega arith))

  rises_onto : (j : ℕ) (b u : List Traced) → Below j b → Rises j u → Rises 0 (onto b u)
  rises_onto j [] u h r = rw h at r
  rises_onto zero (x ∷ b) u h r = absurd h
  rises_onto (suc j) (x ∷ b) u h r = rises_onto j b (x ∷ u) h.1 (omega arith, rw h.0 r)

  -- what is filled up rises
  pub rises_fill : {may : Rules Traced} {b u v : List Traced} (j k : ℕ) → Fill may b u v → Numbers ns k v → j < k → Rises j u
  rises_fill j k full h l = tt
  rises_fill j k (leave {e = x} f) h l = (omega arith, rises_fill (number x) (suc k) f h.1 (omega arith))
  rises_fill j k (put i f) h l = rises_fill j (suc k) f h.1 (omega arith)

  -- what is missing is missing behind what is not
  missing_onto : (n j : ℕ) (b u : List Traced) → Below j b → missing ns n 1 (onto b u) ≡ missing ns n (suc j) u
  missing_onto n j [] u h = rw h
  missing_onto n zero (x ∷ b) u h = absurd h
  missing_onto n (suc j) (x ∷ b) u h = missing_onto n j b (x ∷ u) h.1 ∙ rw (eq-eqb (number x) (suc j) h.0)

  missing_here : (n j : ℕ) (u : List Traced) → Rises j u → j ≤ n → missing ns n j u ≡ Insert j
  missing_here n j [] r l = rw (le-ltb n j l)
  missing_here n j (x ∷ u) r l = rw (ne_eqb (number x) j (λ e. let k = r.0 in omega arith))

  at_onto : (f : List Traced → List Traced → Option (List Traced)) (m j i : ℕ) (b u : List Traced) → Below j b → m ≡ j + i
      → at m f [] (onto b u) ≡ unders b (at i f b u)
  at_onto f m j i [] u h e = let k : m ≡ i = omega arith in ap (λ z. at z f [] u) k
  at_onto f m zero i (x ∷ b) u h e = absurd h
  at_onto f m (suc j) i (x ∷ b) u h e = at_onto f m j (suc i) b (x ∷ u) h.1 (omega arith)

  long : (j : ℕ) (b u : List Traced) → Below j b → length (onto b u) ≡ j + length u
  long j [] u h = omega (arith, h)
  long zero (x ∷ b) u h = absurd h
  long (suc j) (x ∷ b) u h = let k = long j b (x ∷ u) h.1 in omega arith

  module _ (view : Event → View) (s t : List Event) where
    -- an inserted event at its number is the target's
    the_target's : (j : ℕ) (x : Traced) → Inserted x → Genuine view s t ns x → number x ≡ suc j → x ≡ traced (new (suc j)) (get_or t j no_event)
    the_target's j (traced (old i) e) w g h = absurd w
    the_target's j (traced (new n) e) w g h =
        let q : get_or t j no_event ≡ e = (rw h at g) in rw (h, q)

    next_insert : (j : ℕ) (b u : List Traced) → Below j b → Rises (suc j) u → Each (Stands ns) (onto b u) → suc j ≤ length t
        → next_step view ns (length t) (onto b u) ≡ Insert (suc j)
    next_insert j b u h r p l =
        let q : Rises j u = rises_less j u r in
        rw (none_gone ns (onto b u) p, calm_rises 0 (onto b u) (rises_onto j b u h q)) (missing_onto (length t) j b u h ∙ missing_here (length t) (suc j) u r l)
      where
        rises_less : (j : ℕ) (u : List Traced) → Rises (suc j) u → Rises j u
        rises_less j [] r = tt
        rises_less j (x ∷ u) r = (let k = r.0 in omega arith, r.1)

    put_in : (j : ℕ) (b u : List Traced) (x : Traced) → Below j b → Insertable (viewed view) b (viewed view x)
        → at j (inserted view x) [] (onto b u) ≡ some (onto b (x ∷ u))
    put_in j b u x h i =
        at_onto (inserted view x) j j 0 b u h (omega arith)
        ∙ (rw (T_true (may_insert (viewed view) b (viewed view x)) ((if_insertable (viewed view) b (viewed view x)).1 i)) (unders_some b (x ∷ u)))

    inserting₁ : (j : ℕ) (b u : List Traced) (x : Traced) → Below j b → Rises (suc j) u → Each (Stands ns) (onto b u) → suc j ≤ length t
        → length (onto b u) < event_limit
        → Insertable (viewed view) b (viewed view x) → x ≡ traced (new (suc j)) (get_or t j no_event)
        → applied view t (next_step view ns (length t) (onto b u)) (onto b u) ≡ some (onto b (x ∷ u))
    inserting₁ j b u x h r p l m i e =
        rw (next_insert j b u h r p l, lt-ltb j (length t) l, lt-ltb (length (onto b u)) event_limit m, ← e) (put_in j b u x h i)

    as_long : {b u v : List Traced} → Fill (changes view) b u v → length u ≤ length v
    as_long full = omega arith
    as_long (leave f) = let i = as_long f in omega arith
    as_long (put i f) = let j = as_long f in omega arith

    -- as many steps as new events
    pub inserting : (j : ℕ) (r : List Event) {b u v : List Traced} → Fill (changes view) b u v → Below j b → Each (Stands ns) b
        → Ends ns (suc j) v r → Each (Genuine view s t ns) v → j + length r ≡ length t → length t ≤ event_limit
        → (k : ℕ) × Replays view ns t k (onto b u) (onto b v) × (k + length u ≡ length r)
    inserting j [] (full {b = b}) h p e g l m = (
      0,
      ended {u = onto b []} (rw (none_gone ns (onto b []) (each_onto (Stands ns) b [] p tt), calm_rises 0 (onto b []) (rises_onto j b [] h tt))
          (missing_onto (length t) j b [] h ∙ rw (lt-ltb (length t) (suc j) (omega arith)))),
      refl,
    )
    inserting j [] (leave f) h p e g l m = absurd e
    inserting j [] (put i f) h p e g l m = absurd e
    inserting j (y ∷ r) full h p e g l m = absurd e
    inserting j (y ∷ r) (leave {e = x} f) h p e g l m =
        let q = ended_at ns j (tag_of x) e.0 in
        let k = inserting (suc j) r f (q.1, h) (q.0, p) e.2 g.1 (omega arith) m in
        let c = k.2 in
        (k.0, k.1, omega arith)
    inserting j (y ∷ r) (put {b = b} {s = u} {t = v} {e = x} i f) h p e g l m =
        let q = ended_at ns j (tag_of x) e.0 in
        let k = inserting (suc j) r f (q.1, h) (q.0, p) e.2 g.1 (omega arith) m in
        let a = rises_fill (suc j) (suc (suc j)) f (numbers ns (suc j) v r e.2) (omega arith) in
        let c = each_onto (Stands ns) b u p (fill_back (Stands ns) f (stand ns (suc j) v r e.2)) in
        let d = k.2 in
        let n = long j b u h in
        let o = as_long f in
        (suc k.0, stepped (inserting₁ j b u x h a c (omega arith) (omega arith) i.1 (the_target's j x i.0 g.0 q.1)) k.1, omega arith)
