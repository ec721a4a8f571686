-- An array that says how each location was used, and one event more. While no event has clashed, each location was used in one way
-- at most, so that one number for each location tells all; and whether it was touched at all it tells always. Assumes nothing.
use Prim.Native.Nat.{ℕ, ◌<◌}
use mathlib.Core.Path.{◌≡◌, refl, sym, ◌∙◌, fun_ext, subst}
use mathlib.Core.Bool.{Bool, true, false, cond, not, ◌&&◌, ◌||◌, and-true, and-false, or-false, or_assoc, or_comm, false≢true}
use mathlib.Core.List.{List, [], ◌∷◌}
use native.Mathlib.Omega.{arith}
use lib.Dec.{eqb}
use lib.ListN.{length, get_or, replicate, get_or-replicate, length-set, get_or-eq_default}
use lib.Seq.{get_or-set_same, get_or-set_other}
use borrow.Author.Tests.{eqb-true, eqb-false, eq-eqb, lt-ltb}
use Rattle.laws.proofs.Cases.{cases, either, side}
use Rattle.laws.specs.Each.{Each}
use Rattle.kinds.specs.Kind.{row, is_location, plain, atomic}
use Rattle.event.specs.Limit.{places}
use Rattle.event.specs.declared.Event.{Event}
use Rattle.memory.specs.Listed.{listed, uses_atomically}
use Rattle.uses.specs.Cover.{touches, touched}
use Rattle.uses.specs.Use.{uses, clashes}
use Rattle.uses.specs.Way.{way_of, opposed, joined, clashing, clashing_in, is_used, ways_after, ways_with, ways_of}

pub or_right : (a b : Bool) → (a || b) ≡ false → b ≡ false
or_right true b h = absurd (false≢true (sym h))
or_right false b h = h

-- of an event that is at a location
pub with_inside : (ways : List ℕ) (e : Event) → e.place < places → ways_with ways e ≡ ways_after ways e
with_inside ways e h = rw (lt-ltb e.place places h)

pub clash_inside : (regs : List Bool) (ways : List ℕ) (e : Event) → e.place < places → clashing_in regs ways e ≡ (uses_atomically regs e || clashing ways e)
clash_inside regs ways e h = rw (lt-ltb e.place places h)

-- the way of a kind says whether it touches its location, and whether atomically
by_row : (a s : Bool) → (eqb (cond a (cond s 2 1) 0) 2 ≡ (a && s)) × (eqb (cond a (cond s 2 1) 0) 0 ≡ not a)
by_row true true = (refl, refl)
by_row true false = (refl, refl)
by_row false s = (refl, refl)

pub way_atomic : (regs : List Bool) (e : Event) → (eqb (way_of e.kind) 2 && listed regs e.place) ≡ uses_atomically regs e
unfolding way_of
way_atomic regs e = rw (by_row (is_location (row e.kind).place) (row e.kind).sync).0

pub way_touches : (e : Event) → eqb (way_of e.kind) 0 ≡ not (touches e)
unfolding way_of
way_touches e = (by_row (is_location (row e.kind).place) (row e.kind).sync).1

-- the array says how the events used each location
abbrev pub Marks : List ℕ → List Event → Type 0
Marks ways before =
    (l : ℕ) → l < 256 → (uses plain l before ≡ eqb (get_or ways l 0) 1) × (uses atomic l before ≡ eqb (get_or ways l 0) 2)

pub marks_start : Marks (replicate 256 0) []
unfolding uses
marks_start l h = (rw (get_or-replicate {A = ℕ} 256 l 0 0 h), rw (get_or-replicate {A = ℕ} 256 l 0 0 h))

pub marks_told : (es : List Event) {ways ways' : List ℕ} → ways ≡ ways' → Marks ways' es → Marks ways es
marks_told es p m = rw p m

-- how an event of a class uses its location: whether the kind has one, and whether it synchronises
abbrev way : Bool → Bool → ℕ
way a s = cond a (cond s 2 1) 0

-- at a location that was used in the way w
clash_at : (a s p q : Bool) (w : ℕ) → p ≡ eqb w 1 → q ≡ eqb w 2 → ((a && not s) && q) || ((a && s) && p) ≡ opposed w (way a s)
unfolding opposed
clash_at false s p q w e f = simp and-false
clash_at true true p q w e f = simp (and-true, and-false, or-false) e
clash_at true false p q w e f = simp (and-true, and-false, or-false) f

next_at : (a s p q : Bool) (w : ℕ) → p ≡ eqb w 1 → q ≡ eqb w 2 → opposed w (way a s) ≡ false
    → (((a && not s) && true) || p ≡ eqb (joined w (way a s)) 1) × (((a && s) && true) || q ≡ eqb (joined w (way a s)) 2)
unfolding opposed joined
next_at false s p q w e f o = (e, f)
next_at true true p q w e f o = (e ∙ simp (and-true, and-false, or-false) at o, refl)
next_at true false p q w e f o = (refl, f ∙ simp (and-true, and-false) at o)

module _ (ways : List ℕ) (before : List Event) (e : Event) (inside : e.place < 256) (marks : Marks ways before) where
  abbrev was : ℕ
  was = get_or ways e.place 0

  abbrev way_now : ℕ
  way_now = joined was (way_of e.kind)

  pub clash : clashes before e ≡ clashing ways e
  unfolding way_of
  clash =
      clash_at (is_location (row e.kind).place) (row e.kind).sync (uses plain e.place before) (uses atomic e.place before) was
      (marks e.place inside).0
      (marks e.place inside).1

  module _ (size : length ways ≡ 256) (free : clashing ways e ≡ false) where
    here : (l : ℕ) → l < 256 → e.place ≡ l → (uses plain l (e ∷ before) ≡ eqb way_now 1) × (uses atomic l (e ∷ before) ≡ eqb way_now 2)
    unfolding uses way_of
    here l h i =
        subst (λ (l : ℕ). (uses plain l (e ∷ before) ≡ eqb way_now 1) × (uses atomic l (e ∷ before) ≡ eqb way_now 2)) i
        (rw (eq-eqb e.place e.place refl)
        (next_at (is_location (row e.kind).place) (row e.kind).sync (uses plain e.place before) (uses atomic e.place before) was
        (marks e.place inside).0
        (marks e.place inside).1
        free))

    pub marks_next : Marks (ways_after ways e) (e ∷ before)
    unfolding uses
    marks_next l h =
        let k : e.place < length ways = omega arith in
        cases (either (eqb e.place l))
        (λ i. let j : e.place ≡ l = eqb-true e.place l i in
        let g : get_or (ways_after ways e) l 0 ≡ way_now = rw (← j) (get_or-set_same ways e.place way_now 0 k) in
        rw g (here l h j))
        (λ i. let g : get_or (ways_after ways e) l 0 ≡ get_or ways l 0 =
        get_or-set_other ways e.place l way_now 0 (λ y. eqb-false e.place l i (sym y)) in
        rw g (rw (i, and-false, and-false) (marks l h)))

-- whatever clashes, the array says which locations were touched
abbrev pub Touch : List ℕ → List Event → Type 0
Touch ways before = (l : ℕ) → is_used ways l ≡ touched before l

pub touch_told : (es : List Event) {ways ways' : List ℕ} → ways ≡ ways' → Touch ways' es → Touch ways es
touch_told es p t = rw p t

pub touch_start : Touch (replicate 256 0) []
unfolding uses
touch_start l = cases (side l 256) (λ h. rw (get_or-replicate {A = ℕ} 256 l 0 0 h)) (λ h. rw (get_or-eq_default {A = ℕ} (replicate 256 0) 0 h))

used_at : (a s : Bool) (w : ℕ) → not (eqb (joined w (way a s)) 0) ≡ (a || not (eqb w 0))
unfolding joined
used_at false s w = refl
used_at true true w = refl
used_at true false w = refl

module _ (ways : List ℕ) (e : Event) (inside : e.place < 256) (size : length ways ≡ 256) where
  used_next : (l : ℕ) → is_used (ways_after ways e) l ≡ ((touches e && eqb e.place l) || is_used ways l)
  unfolding way_of
  used_next l =
      let now : ℕ = joined (get_or ways e.place 0) (way_of e.kind) in
      cases (either (eqb e.place l))
      (λ i. let j : e.place ≡ l = eqb-true e.place l i in
      let g : get_or (ways_after ways e) l 0 ≡ now = rw (← j) (get_or-set_same ways e.place now 0 (omega arith)) in
      rw (g, i, and-true (touches e), ← j) (used_at (is_location (row e.kind).place) (row e.kind).sync (get_or ways e.place 0)))
      (λ i. let g : get_or (ways_after ways e) l 0 ≡ get_or ways l 0 = get_or-set_other ways e.place l now 0 (λ y. eqb-false e.place l i (sym y)) in
      rw (g, i, and-false (touches e)))

  pub touch_next : (before : List Event) → Touch ways before → Touch (ways_after ways e) (e ∷ before)
  unfolding uses
  touch_next before t l = used_next l ∙ rw (t l)

-- and after many events
used_all : (ways : List ℕ) (es : List Event) → length ways ≡ 256 → Each (λ e. e.place < 256) es → (l : ℕ) → is_used (ways_of ways es) l ≡ (is_used ways l || touched es l)
unfolding ways_of uses
used_all ways [] q h l = sym (or-false (is_used ways l))
used_all ways (e ∷ es) q h l =
    let i = used_all (ways_after ways e) es (length-set ways e.place _ ∙ q) h.1 l in
    rw (with_inside ways e h.0)
    (i ∙ rw (used_next ways e h.0 q l, or_comm (touches e && eqb e.place l) (is_used ways l))
    (or_assoc (is_used ways l) (touches e && eqb e.place l) (touched es l)))

pub used_by : (es : List Event) → Each (λ e. e.place < 256) es → is_used (ways_of (replicate 256 0) es) ≡ touched es
unfolding uses
used_by es h = fun_ext (λ l. used_all (replicate 256 0) es refl h l ∙ rw (touch_start l))
