-- What a test finds of every row of the fixed table holds of every kind. Each law about kinds is one such test, which the check computes, so that a
-- kind more is a row and no law. Assumes nothing.
use Prim.Native.Nat.{ℕ}
use mathlib.Core.Bool.{Bool, true, false, ◌&&◌, not, ◌||◌, false≢true}
use mathlib.Core.Path.{◌≡◌, refl}
use Rattle.laws.proofs.Bools.{and_left}
use Rattle.laws.proofs.Lists.{every, every_at}
use Rattle.kinds.specs.Kind.{row, rows, no_kind, is_location}
use Rattle.kinds.specs.declared.Row.{Row}
use Rattle.kinds.specs.declared.Place.{Place}
use Rattle.kinds.specs.declared.Place.TheVariants.{Location, Mutex, Nowhere}
use Rattle.kinds.specs.declared.Sets.{Sets}
use Rattle.kinds.specs.declared.Sets.TheVariants.{Nothing, First, Second, Sum}

pub each_row : (test : Row → Bool) → every test rows ≡ true → (k : ℕ) → test (row k) ≡ true
unfolding row
each_row test h k = every_at test no_kind rows (and_left _ _ h) h k

-- a row that is plain
abbrev plain_row : Row → Bool
plain_row r = is_location r.place && not r.sync

-- it sets nothing if it reads, else its first value
abbrev simple : Bool → Sets → Bool
simple true Nothing = true
simple false First = true
simple true First = false
simple true Second = false
simple true Sum = false
simple false Nothing = false
simple false Second = false
simple false Sum = false

simple_read : (s : Sets) → simple true s ≡ true → s ≡ Nothing
simple_read Nothing h = refl
simple_read First h = absurd (false≢true h)
simple_read Second h = absurd (false≢true h)
simple_read Sum h = absurd (false≢true h)

simple_store : (s : Sets) → simple false s ≡ true → s ≡ First
simple_store First h = refl
simple_store Nothing h = absurd (false≢true h)
simple_store Second h = absurd (false≢true h)
simple_store Sum h = absurd (false≢true h)

plain_simple : (k : ℕ) → (not (plain_row (row k)) || simple (row k).reads (row k).sets) ≡ true
plain_simple k = each_row (λ r. not (plain_row r) || simple r.reads r.sets) refl k

-- a plain kind that reads sets nothing, and one that does not sets its first value
module _ (k : ℕ) (p : plain_row (row k) ≡ true) where
  told : simple (row k).reads (row k).sets ≡ true
  told = rw p at (plain_simple k)

  pub plain_load : (row k).reads ≡ true → (row k).sets ≡ Nothing
  plain_load r = simple_read (row k).sets (rw r at told)

  pub plain_store : (row k).reads ≡ false → (row k).sets ≡ First
  plain_store r = simple_store (row k).sets (rw r at told)

-- a place that is a location is one
pub a_location : (p : Place) (b : Bool) → (is_location p && b) ≡ true → p ≡ Location
a_location Location b h = refl
a_location Mutex b h = absurd (false≢true h)
a_location Nowhere b h = absurd (false≢true h)
