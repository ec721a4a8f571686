-- What a lawful event's fields are, by the shape of its kind's line: where its order stands, and which of them are 0. Assumes nothing.
use Prim.Native.Nat.{ℕ, suc, ◌≤◌, ◌<◌}
use mathlib.Core.Path.{◌≡◌, refl, sym, ◌∙◌}
use mathlib.Core.Bool.{Bool, true, false, cond, ◌&&◌, ◌||◌, not, false≢true}
use mathlib.Core.List.{List}
use native.Mathlib.Omega.{arith}
use lib.Dec.{eqb, leb}
use lib.ListN.{length, get_or-eq_default}
use borrow.Author.Tests.{eqb-true, eqb-false, leb-true, not-true}
use Rattle.laws.proofs.Bools.{and_left, and_right}
use Rattle.laws.proofs.Cases.{cases, side}
use Rattle.laws.proofs.Has.{has_every}
use Rattle.event.specs.Limit.{last_place}
use Rattle.kinds.specs.Kind.{is_marks, row, rows, no_kind, orders_of, takes, fits_place, lawful}
use Rattle.event.specs.declared.Event.{Event}
use Rattle.kinds.specs.declared.Orders.{Orders}
use Rattle.kinds.specs.declared.Orders.TheVariants.{Bare, Marks, Reads, Writes, Updates, Fences, NoKind}
use Rattle.kinds.specs.declared.Place.{Place}
use Rattle.kinds.specs.declared.Place.TheVariants.{Location, Mutex, Nowhere}
use Rattle.kinds.proofs.Lawful.{order_of_lem, place_of_lem, values_of}
use Rattle.record.specs.Layout.{kind_words, order_words, word_at, order_of, has_place, has_order, shape_of, field_if}
use Rattle.record.specs.declared.form.Form.{Form}
use Rattle.record.specs.declared.shape.Shape.{Shape}
use Rattle.record.proofs.Tables.{word_of}

-- the number of a word that has at most n letters
abbrev named : ℕ → ℕ → Bool
named n o = not (eqb o 0) && (leb o (length order_words) && leb (length (word_at order_words o)) n)

pub record Named (n o : ℕ) : Type 0 where
  pub some : o ≡ 0 → ⊥
  pub listed : o ≤ length order_words
  pub short : length (word_at order_words o) ≤ n

is_named : (n o : ℕ) → named n o ≡ true → Named n o
is_named n o h =
    let r = and_right (not (eqb o 0)) _ h in
    record {
      some = eqb-false o 0 (not-true _ (and_left (not (eqb o 0)) _ h));
      listed = leb-true _ _ (and_left (leb o (length order_words)) _ r);
      short = leb-true _ _ (and_right (leb o (length order_words)) _ r);
    }

-- the letters of an order's word, and of a mark's, at most
abbrev pub order_most : ℕ
order_most = 3

abbrev pub mark_most : ℕ
mark_most = 6

-- where an event's order stands: before its values, after them as a mark, or nowhere
pub data Stand : Bool → Bool → ℕ → Type 0 where
  ahead : {o : ℕ} → Named order_most o → Stand true false o
  behind : {o : ℕ} → Named mark_most o → Stand false true o
  nowhere : Stand false false 0

stand : (os : Orders) (o : ℕ) → takes os o ≡ true → Stand (has_order os) (is_marks os) o
unfolding takes
stand Bare o h = rw (eqb-true o 0 (has_every (λ n. eqb n 0) (orders_of Bare) refl o h)) nowhere
stand Marks o h = behind (is_named mark_most o (has_every (named mark_most) (orders_of Marks) refl o h))
stand Reads o h = ahead (is_named order_most o (has_every (named order_most) (orders_of Reads) refl o h))
stand Writes o h = ahead (is_named order_most o (has_every (named order_most) (orders_of Writes) refl o h))
stand Updates o h = ahead (is_named order_most o (has_every (named order_most) (orders_of Updates) refl o h))
stand Fences o h = ahead (is_named order_most o (has_every (named order_most) (orders_of Fences) refl o h))
stand NoKind o h = absurd (false≢true h)

-- the order that is read of both places is the event's, and has a word
pub stand_order : {x y : Bool} {o : ℕ} → Stand x y o → (cond y o (cond x o 0) ≡ o) × (o ≤ length order_words)
stand_order (ahead n) = (refl, n.listed)
stand_order (behind n) = (refl, n.listed)
stand_order nowhere = (refl, omega arith)

-- its word is short
pub stand_length : {x y : Bool} {o : ℕ} → Stand x y o
    → (x ≡ true → length (word_at order_words o) ≤ order_most) × (length (word_at order_words o) ≤ mark_most)
stand_length (ahead n) = ((λ _. n.short), omega arith)
stand_length (behind n) = ((λ e. absurd (false≢true e)), n.short)
stand_length nowhere = ((λ _. omega arith), omega arith)

-- a word that was read as the order is the order's
pub stand_words : {x y : Bool} {o : ℕ} → Stand x y o → (f g : List ℕ) → o ≡ cond y (order_of g) (cond x (order_of f) 0)
    → (fs gs : List (List ℕ)) → (field_if x f fs ≡ field_if x (word_at order_words o) fs) × (field_if y g gs ≡ field_if y (word_at order_words o) gs)
stand_words (ahead n) f g e fs gs = (rw (e, word_of order_words f (λ z. n.some (e ∙ z))), refl)
stand_words (behind n) f g e fs gs = (refl, rw (e, word_of order_words g (λ z. n.some (e ∙ z))))
stand_words nowhere f g e fs gs = (refl, refl)

-- a number that is no kind's has the row of none, which takes no order
outside : (k : ℕ) → length kind_words < k → row k ≡ no_kind
unfolding row
outside k h = get_or-eq_default rows no_kind h

zero_kind : row 0 ≡ no_kind
unfolding row
zero_kind = refl

no_kind_lem : (k o : ℕ) → row k ≡ no_kind → takes (row k).orders o ≡ true → ⊥
unfolding takes
no_kind_lem k o e h = false≢true (rw e at h)

place_fits : (p : Place) (n : ℕ) → fits_place p n ≡ true → (n ≤ last_place) × (has_place p ≡ false → n ≡ 0)
place_fits Location n h = (leb-true n last_place h, λ e. absurd (false≢true (sym e)))
place_fits Mutex n h = (leb-true n last_place h, λ e. absurd (false≢true (sym e)))
place_fits Nowhere n h = let z : n ≡ 0 = eqb-true n 0 h in (omega arith, λ e. z)

or_second : (a b : Bool) → (a || b) ≡ true → a ≡ false → b ≡ true
or_second false b h e = h
or_second true b h e = absurd (false≢true (sym e))

-- an event whose fields are those of a shape: the kind has a word, the order stands in its place, and what is not there is 0
pub record Shaped (s : Shape) (e : Event) : Type 0 where
  pub some : e.kind ≡ 0 → ⊥
  pub listed : e.kind ≤ length kind_words
  pub stands : Stand s.order s.mark e.order
  pub place : e.place ≤ last_place
  pub no_place : s.place ≡ false → e.place ≡ 0
  pub no_first : s.first ≡ false → e.first ≡ 0
  pub no_second : s.second ≡ false → e.second ≡ 0

pub shaped : (f : Form) (e : Event) → lawful e ≡ true → Shaped (shape_of f e.kind) e
shaped f e h =
    let n : ℕ = (row e.kind).values in
    let o = order_of_lem e h in
    let p = place_fits (row e.kind).place e.place (place_of_lem e h) in
    let v = values_of e h in
    record {
      some = λ z. no_kind_lem e.kind e.order (rw z zero_kind) o;
      listed =
          cases (side e.kind (suc (length kind_words))) (λ q. omega arith) (λ q. absurd (no_kind_lem e.kind e.order (outside e.kind q) o));
      stands = stand (row e.kind).orders e.order o;
      place = p.0;
      no_place = p.1;
      no_first = λ l. eqb-true _ _ (or_second (leb 1 n) _ (and_left _ _ v) l);
      no_second = λ l. eqb-true _ _ (or_second (leb 2 n) _ (and_right (leb 1 n || eqb e.first 0) _ v) l);
    }
