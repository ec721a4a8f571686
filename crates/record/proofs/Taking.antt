-- What a field that a line has or has not, taken at a place, says of the line's record, whatever is read of it next. Where none could be
-- taken the record is refused. Assumes nothing.
use Prim.Native.Nat.{ℕ}
use mathlib.Core.Path.{◌≡◌, refl, ap, sym, ◌∙◌}
use mathlib.Core.Bool.{Bool, true, false}
use mathlib.Core.List.{List}
use native.Mathlib.Omega.{arith}
use Rattle.std.specs.Prelude.{Option, Some, None, option_map, cond}
use Rattle.text.specs.Field.{field_at, fields_from, on_end}
use Rattle.text.specs.Take.{taken, ends_at}
use Rattle.text.specs.declared.field.Field.{Field}
use Rattle.text.specs.declared.take.Taken.{Taken}
use Rattle.text.proofs.Fields.{field_step, line_end}
use Rattle.text.proofs.Takes.{took, bad, ended, not_ended}
use Rattle.event.specs.Limit.{last_place}
use Rattle.kinds.specs.Kind.{last_value, last_code, made}
use Rattle.record.specs.Layout.{shape_of}
use Rattle.record.specs.Part.{number_part, order_in, order_part, on_part}
use Rattle.record.specs.Record.{number_if, order_if, lawful_line, event_by, event_rest}
use Rattle.record.specs.declared.form.Form.{Form}
use Rattle.record.specs.declared.shape.Shape.{Shape}
use Rattle.record.specs.declared.Record.{Record}

module _ (l : List ℕ) (at : ℕ) (k : ℕ → List (List ℕ) → Option Record) where
  -- the reading goes on with what was taken, and from the next place
  abbrev on : Taken → Option Record
  on t = k t.value (fields_from l t.next)

  same : (t u : Taken) → Some t ≡ Some u → on t ≡ on u
  same t u h = let e : t ≡ u = cc in ap on e

  -- a number, or 0
  number_given : (max : ℕ) (w : Bool) (t : Taken) → number_part w l at max ≡ Some t → number_if w max (fields_from l at) k ≡ k t.value (fields_from l t.next)
  unfolding number_part number_if
  number_given max false t h = same (taken 0 at) t h
  number_given max true t h = took l at max t h None k

  -- no number could be taken
  number_refused : (max : ℕ) (w : Bool) → number_part w l at max ≡ None → number_if w max (fields_from l at) k ≡ None
  unfolding number_part number_if
  number_refused max false h = absurd (let z : ◌≡◌ {A = ℕ} 0 1 = cc in omega arith)
  number_refused max true h = bad l at max None k h

  ordered : (o : ℕ) (s : Option Field) (t : Taken) → field_at l at ≡ s → option_map (order_in l) s ≡ Some t
      → order_if true o (fields_from l at) k ≡ k t.value (fields_from l t.next)
  unfolding order_if
  ordered o (Some f) t q h = rw (field_step l at f q) (same (order_in l f) t h)
  ordered o None t q h = absurd (let z : ◌≡◌ {A = ℕ} 0 1 = cc in omega arith)

  -- an order or a mark, or the one in hand
  order_given : (o : ℕ) (w : Bool) (t : Taken) → order_part w l at o ≡ Some t → order_if w o (fields_from l at) k ≡ k t.value (fields_from l t.next)
  unfolding order_part order_if
  order_given o false t h = same (taken o at) t h
  order_given o true t h = ordered o (field_at l at) t refl h

  not_ordered : (o : ℕ) (s : Option Field) → field_at l at ≡ s → option_map (order_in l) s ≡ None → order_if true o (fields_from l at) k ≡ None
  unfolding order_if
  not_ordered o (Some f) q h = absurd (let z : ◌≡◌ {A = ℕ} 0 1 = cc in omega arith)
  not_ordered o None q h = rw (line_end l at q)

  -- the line has no field there
  order_refused : (o : ℕ) (w : Bool) → order_part w l at o ≡ None → order_if w o (fields_from l at) k ≡ None
  unfolding order_part order_if
  order_refused o false h = absurd (let z : ◌≡◌ {A = ℕ} 0 1 = cc in omega arith)
  order_refused o true h = not_ordered o (field_at l at) refl h

-- taking goes on as the reading does, if each goes on alike with what was taken
module _ (l : List ℕ) (at : ℕ) (K : Taken → Option Record) (k : ℕ → List (List ℕ) → Option Record) (same : (t : Taken) → K t ≡ k t.value (fields_from l t.next)) where
  on_number : (max : ℕ) (w : Bool) → on_part (number_part w l at max) K ≡ number_if w max (fields_from l at) k
  on_number max w = by (number_part w l at max) refl where
    by : (o : Option Taken) → number_part w l at max ≡ o → on_part o K ≡ number_if w max (fields_from l at) k
    by (Some t) h = rw (number_given l at k max w t h) (same t)
    by None h = rw (number_refused l at k max w h)

  on_order : (o : ℕ) (w : Bool) → on_part (order_part w l at o) K ≡ order_if w o (fields_from l at) k
  on_order o w = by (order_part w l at o) refl where
    by : (t : Option Taken) → order_part w l at o ≡ t → on_part t K ≡ order_if w o (fields_from l at) k
    by (Some t) h = rw (order_given l at k o w t h) (same t)
    by None h = rw (order_refused l at k o w h)

at_end : (l : List ℕ) (at : ℕ) (x : Option Record) → cond (ends_at l at) x None ≡ on_end None (fields_from l at) x
at_end l at x = by (ends_at l at) refl where
  by : (b : Bool) → ends_at l at ≡ b → cond b x None ≡ on_end None (fields_from l at) x
  by true h = rw (ended None l at x h)
  by false h = rw (not_ended None l at x h)

-- an event's line, its fields taken one by one
module _ (s : Shape) (kind : ℕ) (l : List ℕ) (at : ℕ) where
  abbrev pub event_taken : Option Record
  event_taken =
      on_part (number_part s.place l at last_place) (λ place.
      on_part (order_part s.order l place.next 0) (λ order.
      on_part (number_part s.first l order.next last_value) (λ first.
      on_part (number_part s.second l first.next last_value) (λ second.
      on_part (order_part s.mark l second.next order.value) (λ mark.
      on_part (number_part s.code l mark.next last_code) (λ code.
      cond (ends_at l code.next) (lawful_line (made kind place.value mark.value first.value second.value code.value)) None))))))

  read_so : event_taken ≡ event_by s kind (fields_from l at)
  unfolding event_by
  read_so =
      on_number l at _ _ (λ place.
      on_order l place.next _ _ (λ order.
      on_number l order.next _ _ (λ first.
      on_number l first.next _ _ (λ second.
      on_order l second.next _ _ (λ mark.
      on_number l mark.next _ _ (λ code.
      at_end l code.next _) last_code s.code) order.value s.mark) last_value s.second) last_value s.first) 0 s.order) last_place s.place

  pub taken_event : (f : Form) → s ≡ shape_of f kind → event_rest f kind (fields_from l at) ≡ event_taken
  unfolding event_rest
  taken_event f e = ap (λ (x : Shape). event_by x kind (fields_from l at)) (sym e) ∙ sym read_so
