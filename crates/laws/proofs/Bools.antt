-- What a conjunction of tests says of each. Assumes nothing.
use mathlib.Core.Bool.{Bool, true, false, ◌&&◌, false≢true}
use mathlib.Core.Path.{◌≡◌, refl}

-- the first of two
pub and_left : (x y : Bool) → (x && y) ≡ true → x ≡ true
and_left true y h = refl
and_left false y h = h

-- the second of two
pub and_right : (x y : Bool) → (x && y) ≡ true → y ≡ true
and_right true y h = h
and_right false y h = absurd (false≢true h)

-- a test that always holds says nothing
pub and_true : (x : Bool) → (x && true) ≡ x
and_true true = refl
and_true false = refl
