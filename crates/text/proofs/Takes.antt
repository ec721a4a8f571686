-- What a number field that was taken, or the end, says of the line's record, whatever is read of it next: r is the refusal, K what goes on.
-- Assumes nothing.
use Prim.Native.Nat.{ℕ, ◌+◌, ◌-◌, ◌≤◌, ◌<◌}
use mathlib.Core.Path.{◌≡◌, refl, ap, sym, ◌∙◌}
use mathlib.Core.Bool.{true, false, false≢true}
use mathlib.Core.List.{List, [], ◌∷◌}
use native.Mathlib.Omega.{arith}
use lib.ListN.{length, take, drop}
use Rattle.std.specs.Prelude.{Option, Some, None, is_none, option_map, option_and_then}
use Rattle.text.specs.Field.{field_at, fields_from, on_field, on_end}
use Rattle.text.specs.Number.{number_of, on_number, decimal}
use Rattle.text.specs.Cut.{is_empty}
use Rattle.text.specs.Take.{taken, number_in, take_number, ends_at}
use Rattle.text.specs.declared.field.Field.{Field}
use Rattle.text.specs.declared.take.Taken.{Taken}
use Rattle.text.proofs.Fields.{line_end, field_from, field_in, field_step}
use Rattle.text.proofs.Round.{read_back}

-- a number field of at most max is read, and then K
abbrev pub number_then : {R : Type 0} → R → ℕ → (ℕ → List (List ℕ) → R) → List (List ℕ) → R
number_then r max K fs = on_field r fs (λ p ps. on_number r (number_of max p) (λ m. K m ps))

-- where the field that was taken as t lies
record Found (l : List ℕ) (at max : ℕ) (t : Taken) : Type 0 where
  place : Field
  step : field_at l at ≡ Some place
  number : number_of max (take (place.to - place.from) (drop place.from l)) ≡ Some t.value
  next : place.to + 1 ≡ t.next

module _ (l : List ℕ) (at max : ℕ) where
  abbrev word : Field → List ℕ
  word f = take (f.to - f.from) (drop f.from l)

  found_number : (f : Field) (v : Option ℕ) (t : Taken) → field_at l at ≡ Some f → number_of max (word f) ≡ v
      → option_map (λ n. taken n (f.to + 1)) v ≡ Some t → Found l at max t
  found_number f (Some m) t q p h =
      let e : taken m (f.to + 1) ≡ t = cc in
      record { place = f; step = q; number = p ∙ ap (λ (x : Taken). Some x.value) e; next = ap (λ (x : Taken). x.next) e }
  found_number f None t q p h = absurd (let z : ◌≡◌ {A = ℕ} 0 1 = cc in omega arith)

  found_field : (s : Option Field) (t : Taken) → field_at l at ≡ s → option_and_then (number_in l max) s ≡ Some t → Found l at max t
  found_field (Some f) t q h = found_number f _ t q refl h
  found_field None t q h = absurd (let z : ◌≡◌ {A = ℕ} 0 1 = cc in omega arith)

  module _ (t : Taken) (h : take_number l at max ≡ Some t) where
    found : Found l at max t
    unfolding take_number
    found = found_field (field_at l at) t refl h

    -- the field is what is written of the number, which is at most the limit
    written : (word found.place ≡ decimal t.value) × (t.value ≤ max)
    written = read_back max _ t.value found.number

    pub taken_le : t.value ≤ max
    taken_le = written.1

    -- the next place lies after this one, and not beyond the place where the line has ended
    pub taken_next : (at < t.next) × (t.next ≤ length l + 1)
    taken_next = omega (arith, found.next, field_from l at _ found.step, field_in l at _ found.step)

    -- the fields from here on are what is written of the number, and those from the next place on
    pub taken_fields : fields_from l at ≡ decimal t.value ∷ fields_from l t.next
    taken_fields = field_step l at _ found.step ∙ rw (written.0, found.next)

    -- whatever goes on, goes on with the number and from the next place
    pub took : {R : Type 0} (r : R) (K : ℕ → List (List ℕ) → R) → number_then r max K (fields_from l at) ≡ K t.value (fields_from l t.next)
    took r K = rw (field_step l at _ found.step, found.number, found.next)

module _ (l : List ℕ) (at max : ℕ) {R : Type 0} (r : R) (K : ℕ → List (List ℕ) → R) where
  bad_number : (e : ℕ) (p : List ℕ) (v : Option ℕ) → number_of max p ≡ v → option_map (λ n. taken n e) v ≡ None
      → on_number r (number_of max p) (λ m. K m (fields_from l e)) ≡ r
  bad_number e p (Some m) q h = absurd (let z : ◌≡◌ {A = ℕ} 0 1 = cc in omega arith)
  bad_number e p None q h = rw q

  bad_field : (s : Option Field) → field_at l at ≡ s → option_and_then (number_in l max) s ≡ None → number_then r max K (fields_from l at) ≡ r
  bad_field (Some f) q h = rw (field_step l at f q) (bad_number (f.to + 1) (take (f.to - f.from) (drop f.from l)) _ refl h)
  bad_field None q h = rw (line_end l at q)

  -- no number was taken: whatever would have gone on, is refused
  pub bad : take_number l at max ≡ None → number_then r max K (fields_from l at) ≡ r
  unfolding take_number
  bad h = bad_field (field_at l at) refl h

-- no field starts at a place where none is found
pub ends_none : (l : List ℕ) (at : ℕ) → ends_at l at ≡ is_none (field_at l at)
unfolding ends_at
ends_none l at = on (field_at l at) refl where
  on : (o : Option Field) → field_at l at ≡ o → is_empty (fields_from l at) ≡ is_none o
  on None q = rw (line_end l at q)
  on (Some f) q = rw (field_step l at f q)

module _ {R : Type 0} (r : R) where
  end_of : (fs : List (List ℕ)) (x : R) → is_empty fs ≡ true → on_end r fs x ≡ x
  end_of [] x h = refl
  end_of (p ∷ ps) x h = absurd (false≢true h)

  not_end_of : (fs : List (List ℕ)) (x : R) → is_empty fs ≡ false → on_end r fs x ≡ r
  not_end_of [] x h = absurd (false≢true (sym h))
  not_end_of (p ∷ ps) x h = refl

  -- no field is left
  pub ended : (l : List ℕ) (at : ℕ) (x : R) → ends_at l at ≡ true → on_end r (fields_from l at) x ≡ x
  unfolding ends_at
  ended l at x h = end_of (fields_from l at) x h

  -- a field is left
  pub not_ended : (l : List ℕ) (at : ℕ) (x : R) → ends_at l at ≡ false → on_end r (fields_from l at) x ≡ r
  unfolding ends_at
  not_ended l at x h = not_end_of (fields_from l at) x h
