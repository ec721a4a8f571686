-- What a lawful event's fields are. Assumes nothing.
use Prim.Native.Nat.{ℕ, ◌<◌, ◌≤◌}
use mathlib.Core.Bool.{true, ◌&&◌}
use mathlib.Core.Path.{◌≡◌}
use native.Mathlib.Omega.{arith}
use lib.Dec.{leb}
use borrow.Author.Tests.{leb-true, eqb-true}
use Rattle.laws.proofs.Bools.{and_left, and_right}
use Rattle.kinds.specs.Kind.{row, takes, fits_place, fits_values, last_of, last_value, in_range, last_code, lawful}
use Rattle.event.specs.declared.Event.{Event}
use Rattle.kinds.specs.declared.Width.{Width}
use Rattle.kinds.specs.declared.Width.TheVariants.{Bits32, Bits64}
use Rattle.kinds.specs.declared.Place.{Place}
use Rattle.kinds.specs.declared.Place.TheVariants.{Location, Mutex, Nowhere}

pub place_in : (p : Place) (n : ℕ) → fits_place p n ≡ true → n < 256
place_in Location n h = omega (arith, leb-true n 255 h)
place_in Mutex n h = omega (arith, leb-true n 255 h)
place_in Nowhere n h = omega (arith, eqb-true n 0 h)

-- no value is greater than the greatest
last_most : (w : Width) → last_of w ≤ last_value
last_most Bits32 = omega arith
last_most Bits64 = omega arith

module _ (e : Event) (h : lawful e ≡ true) where
  pub order_of_lem : takes (row e.kind).orders e.order ≡ true
  unfolding lawful
  order_of_lem = and_left _ _ h

  pub place_of_lem : fits_place (row e.kind).place e.place ≡ true
  unfolding lawful
  place_of_lem = and_left _ _ (and_right (takes (row e.kind).orders e.order) _ h)

  pub values_of : fits_values (row e.kind).values e.first e.second ≡ true
  unfolding lawful
  values_of = and_left _ _ (and_right (fits_place (row e.kind).place e.place) _ (and_right (takes (row e.kind).orders e.order) _ h))

  behind_values : (in_range (row e.kind).width e.first e.second && leb e.code last_code) ≡ true
  unfolding lawful
  behind_values =
      and_right (fits_values (row e.kind).values e.first e.second) _
      (and_right (fits_place (row e.kind).place e.place) _ (and_right (takes (row e.kind).orders e.order) _ h))

  range_of : in_range (row e.kind).width e.first e.second ≡ true
  range_of = and_left _ _ behind_values

  pub first_of : e.first ≤ last_value
  first_of =
      let w : Width = (row e.kind).width in
      let h₁ : e.first ≤ last_of w = leb-true _ _ (and_left (leb e.first (last_of w)) (leb e.second (last_of w)) range_of) in
      omega (arith, h₁, last_most w)

  pub second_of : e.second ≤ last_value
  second_of =
      let w : Width = (row e.kind).width in
      let h₂ : e.second ≤ last_of w = leb-true _ _ (and_right (leb e.first (last_of w)) (leb e.second (last_of w)) range_of) in
      omega (arith, h₂, last_most w)

  pub code_of : e.code ≤ last_code
  code_of = leb-true _ _ (and_right (in_range (row e.kind).width e.first e.second) _ behind_values)

  pub place_below : e.place < 256
  place_below = place_in (row e.kind).place e.place place_of_lem
