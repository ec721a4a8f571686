-- Laws of a line's fields: what the step at a place says of the fields that start there or after it. Assumes nothing.
use Prim.Native.Nat.{ℕ, ◌+◌, ◌-◌, ◌≤◌}
use mathlib.Core.Path.{◌≡◌}
use mathlib.Core.Bool.{false}
use mathlib.Core.List.{List, [], ◌∷◌}
use native.Mathlib.Omega.{arith}
use lib.Dec.{ltb}
use lib.ListN.{length, take, drop}
use borrow.Author.Tests.{ltb-true, ltb-false}
use Rattle.laws.proofs.Cases.{cases, either}
use Rattle.std.specs.Prelude.{Some, None}
use Rattle.text.specs.Field.{field_len, field_at, fields, fields_from}
use Rattle.text.specs.declared.field.Field.{Field}
use Rattle.text.proofs.Cuts.{from_start, from_out, from_step, until_in}

-- from the start: all the fields
pub fields_start : (l : List ℕ) → fields_from l 0 ≡ fields l
fields_start l = from_start 9 l

-- the line has ended: no field
pub line_end : (l : List ℕ) (at : ℕ) → field_at l at ≡ None → fields_from l at ≡ []
unfolding field_at
line_end l at e =
    cases (either (ltb (length l) at)) (λ p. from_out 9 l at (ltb-true (length l) at p))
    (λ p. absurd (let z : ◌≡◌ {A = ℕ} 0 1 = cc (rw p at e) in omega arith))

module _ (l : List ℕ) (at : ℕ) (f : Field) (e : field_at l at ≡ Some f) where
  within : ltb (length l) at ≡ false
  unfolding field_at
  within = cases (either (ltb (length l) at)) (λ p. absurd (let z : ◌≡◌ {A = ℕ} 0 1 = cc (rw p at e) in omega arith)) (λ p. p)

  -- it starts at the place
  pub field_from : f.from ≡ at
  unfolding field_at
  field_from = cc (rw within at e)

  to : f.to ≡ at + field_len (drop at l)
  unfolding field_at
  to = cc (rw within at e)

  -- it lies within the line
  pub field_in : (f.from ≤ f.to) × (f.to ≤ length l)
  field_in = omega (arith, field_from, to, until_in 9 l at (ltb-false (length l) at within))

  -- it is the first of the fields from there on, and after its TAB come the others
  pub field_step : fields_from l at ≡ take (f.to - f.from) (drop f.from l) ∷ fields_from l (f.to + 1)
  field_step = rw field_from (from_step 9 l at f.to (ltb-false (length l) at within) to)
