-- What 20 and 21 leave: a text that has neither has lines for just the starting values that are to have one, and a text with those lines has neither.
-- Assumes nothing.
use Prim.Native.Nat.{ℕ, ◌+◌, ◌≤◌, ◌<◌}
use mathlib.Core.Bool.{Bool, true, false, not, ◌&&◌, ◌||◌, or-true, and-false, false≢true}
use mathlib.Core.Path.{◌≡◌, refl, sym}
use mathlib.Core.List.{List, [], ◌∷◌}
use native.Mathlib.Omega.{arith}
use lib.Dec.{eqb}
use lib.ListN.{length, get_or}
use borrow.Author.Tests.{eq-eqb, eqb-true}
use Rattle.laws.proofs.Cases.{cases, either}
use Rattle.laws.proofs.Lists.{Each, each_imp}
use Rattle.event.specs.Answer.{done}
use Rattle.kinds.specs.Kind.{last_value}
use Rattle.event.specs.declared.Event.{Event}
use Rattle.kinds.proofs.Lawful.{place_below}
use Rattle.frame.proofs.Settled.{first_done}
use Rattle.record.specs.Form.{silent}
use Rattle.record.specs.Record.{Fit}
use Rattle.record.specs.declared.form.Form.{Form}
use Rattle.record.specs.declared.form.Form.TheVariants.{One, Two}
use Rattle.uses.specs.Cover.{Start, touches, touched, lined, lacks_line, is_idle, starts}
use Rattle.trace.specs.Fault.{cover_fault}
use Rattle.uses.specs.Use.{uses}
use Rattle.uses.specs.Bad.{first_bad}
use Rattle.trace.specs.Text.{Valued}
use Rattle.trace.specs.Writing.{has_line}
use Rattle.uses.proofs.Bad.{bad_done, bad_each}
use Rattle.uses.proofs.Starts.{Agrees, lined_starts, starts_each}

-- a starting value that has a line in a form: in range, and not a silent zero
pub record Heard (f : Form) (i : Start) : Type 0 where
  pub value : i.1 ≤ last_value
  pub loud : silent f i.1 ≡ false

loud_zero : (s t : Bool) → (not s && t) ≡ true → s ≡ false
loud_zero true t h = absurd (false≢true h)
loud_zero false t h = refl

loud_other : (f : Form) (v : ℕ) → eqb v 0 ≡ false → silent f v ≡ false
loud_other One v z = z
loud_other Two v z = refl

loud_by : (f : Form) (has : ℕ → Bool) (l v : ℕ) → has_line f has l v ≡ true → silent f v ≡ false
loud_by f has l v h =
    cases (either (eqb v 0)) (λ z. let o : v ≡ 0 = eqb-true v 0 z in rw o (loud_zero (silent f 0) (has l) (rw o at h))) (λ z. loud_other f v z)

-- the starting values that are to have a line have one
pub each_heard : (f : Form) (has : ℕ → Bool) (l : ℕ) (vs : List ℕ) → Valued vs → Each (Heard f) (starts (has_line f has) l vs)
unfolding starts
each_heard f has l [] h = tt
each_heard f has l (v ∷ vs) h =
    let i = each_heard f has (l + 1) vs h.1 in
    cases (either (has_line f has l v)) (λ e. rw e (record { value = h.0; loud = loud_by f has l v e }, i)) (λ e. rw e i)

-- by the tests: whether the zero is silent (s), the value is 0 (z), the location touched (t) or lined (n)
wanted_by : (s z t : Bool) → (z ≡ true → s ≡ false) → (not s && (z && not t)) ≡ false → (not z || (not s && t)) ≡ true
wanted_by s false t h k = refl
wanted_by true true t h k = absurd (false≢true (sym (h refl)))
wanted_by false true true h k = refl
wanted_by false true false h k = absurd (false≢true (sym k))

idle_by : (s z t : Bool) → (not z || (not s && t)) ≡ true → (not s && (z && not t)) ≡ false
idle_by true z t h = refl
idle_by false false t h = refl
idle_by false true true h = refl
idle_by false true false h = absurd (false≢true h)

covered_by : (s z a t : Bool) → (a ≡ true → t ≡ true) → (not s && (a && not (not z || (not s && t)))) ≡ false
covered_by true z a t h = refl
covered_by false z false t h = refl
covered_by false true true true h = refl
covered_by false false true true h = refl
covered_by false z true false h = absurd (false≢true (h refl))

module _ (f : Form) (side : ℕ) (is : List Start) (es : List Event) where
  -- neither 20 nor 21: each starting value is to have its line
  module _ (h : (cover_fault f side is es).number ≡ 0) where
    neither : ((first_bad (lacks_line f (lined is)) 20 side 1 es).number ≡ 0) × ((first_bad (is_idle f (touched es)) 21 side 2 is).number ≡ 0)
    unfolding cover_fault
    neither = first_done (first_bad (lacks_line f (lined is)) 20 side 1 es) (first_bad (is_idle f (touched es)) 21 side 2 is) h

    silent_zero : (v : ℕ) → silent f v ≡ false → eqb v 0 ≡ true → silent f 0 ≡ false
    silent_zero v s z = rw (eqb-true v 0 z) at s

    each_wanted : (js : List Start) → Each (Heard f) js → Each (λ i. is_idle f (touched es) i ≡ false) js
        → Each (λ i. has_line f (touched es) i.0 i.1 ≡ true) js
    each_wanted [] a b = tt
    each_wanted (i ∷ js) a b =
        (wanted_by (silent f 0) (eqb i.1 0) (touched es i.0) (silent_zero i.1 a.0.loud) b.0, each_wanted js a.1 b.1)

    -- and a location without a line is touched by no event, unless its zero is silent
    untouched : (l : ℕ) → lined is l ≡ false → (ds : List Event) → Each (λ e. lacks_line f (lined is) e ≡ false) ds → (not (silent f 0) && touched ds l) ≡ false
    unfolding uses
    untouched l n [] k = cases (either (silent f 0)) (λ y. rw y) (λ y. rw y)
    untouched l n (e ∷ ds) k =
        let r = untouched l n ds k.1 in
        cases (either (silent f 0)) (λ y. rw y)
        (λ y. cases (either (eqb e.place l))
        (λ i. let j : lined is e.place ≡ false = rw (eqb-true e.place l i) n in
        let t : touches e ≡ false = not_touching (touches e) (rw (y, j) at k.0) in
        rw (t, y) (rw y at r))
        (λ i. rw (y, i, and-false (touches e)) (rw y at r)))
      where
        not_touching : (a : Bool) → (a && true) ≡ false → a ≡ false
        not_touching false h = refl
        not_touching true h = absurd (false≢true (sym h))

    pub agrees : Each (Heard f) is → Agrees (has_line f (touched es)) 0 is
    agrees heard = record {
      wanted = each_wanted is heard (bad_each (is_idle f (touched es)) 21 side (λ z. omega arith) 2 is neither.1);
      others = λ l o n. untouched l n es (bad_each (lacks_line f (lined is)) 20 side (λ z. omega arith) 1 es neither.0);
    }

-- an event that has a line is at a location of the memory
pub fit_inside : (f : Form) (n : ℕ) (es : List Event) → n ≡ 256 → Each (Fit f) es → Each (λ e. e.place < n) es
fit_inside f n es q h = each_imp (Fit f) (λ e. e.place < n) (λ e i. omega (arith, place_below e i.law)) es h

-- the lines of the starting values that are to have one
module _ (f : Form) (side : ℕ) (cells : List ℕ) (es : List Event) (inside : Each (λ e. e.place < length cells) es) where
  abbrev written : List Start
  written = starts (has_line f (touched es)) 0 cells

  -- an event touches what it touches
  touching : (ds : List Event) → ((l : ℕ) → touched ds l ≡ true → touched es l ≡ true) → Each (λ e. touches e ≡ true → touched es e.place ≡ true) ds
  unfolding uses
  touching [] h = tt
  touching (e ∷ ds) h =
      ((λ t. h e.place (rw (t, eq-eqb e.place e.place refl))), touching ds (λ l t. h l (rw (t, or-true (touches e && eqb e.place l)))))

  none_lacks : (ds : List Event) → Each (λ e. e.place < length cells) ds → Each (λ e. touches e ≡ true → touched es e.place ≡ true) ds
      → Each (λ e. lacks_line f (lined written) e ≡ false) ds
  none_lacks [] a b = tt
  none_lacks (e ∷ ds) a b = (
    rw (lined_starts (has_line f (touched es)) cells e.place a.0)
        (covered_by (silent f 0) (eqb (get_or cells e.place 0) 0) (touches e) (touched es e.place) b.0),
    none_lacks ds a.1 b.1,
  )

  -- Document 02, C-15: what is written in form 2 is never 20 or 21.
  pub covered : cover_fault f side written es ≡ done
  unfolding cover_fault
  covered =
      rw (
        bad_done (lacks_line f (lined written)) 20 side 1 es (none_lacks es inside (touching es (λ l t. t))),
        bad_done (is_idle f (touched es)) 21 side 2 written
            (starts_each (has_line f (touched es)) (λ i. is_idle f (touched es) i ≡ false) (λ l v h. idle_by (silent f 0) (eqb v 0) (touched es l) h) 0 cells),
      )
