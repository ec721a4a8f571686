-- Inner: whether an event stays, as one walk over the events decides it, by what is known of the accesses to its location since the last synchronising
-- event: how they begin, the value of the first, and the number of the last store, 0 for none.
-- Assumes nothing.
use Rattle.std.specs.Prelude.{ℕ, ◌-◌, Bool, true, false, not, cond, ◌&&◌, List, eqb, set}
use Rattle.shorten.specs.declared.stay.Begun.{Begun}
use Rattle.shorten.specs.declared.stay.Begun.TheVariants.{Not, ByLoad, ByStore}

abbrev pub is_not : Begun → Bool
is_not Not = true
is_not ByLoad = false
is_not ByStore = false

abbrev pub is_by_load : Begun → Bool
is_by_load Not = false
is_by_load ByLoad = true
is_by_load ByStore = false

-- As if no store came after it: a load stays if it is used and the first, a store unless the first is a load of its value.
abbrev pub stays_at : Bool → Bool → Begun → ℕ → ℕ → Bool
stays_at is_load used begun value own = cond is_load (used && is_not begun) (not (is_by_load begun && eqb value own))

-- What is known with one access more.
abbrev pub begun_after : Bool → Begun → Begun
begun_after is_load begun = cond (is_not begun) (cond is_load ByLoad ByStore) begun

abbrev pub value_after : Begun → ℕ → ℕ → ℕ
value_after begun value own = cond (is_not begun) own value

abbrev pub last_after : Bool → ℕ → ℕ → ℕ
last_after is_load last n = cond is_load last n

-- The number of the store that an access overwrites, 0 for none; and the flags without its flag.
abbrev pub overwrites : Bool → ℕ → ℕ
overwrites is_load last = cond is_load 0 last

abbrev pub unflagged : List Bool → ℕ → List Bool
unflagged flags n = cond (eqb n 0) flags (set flags (n - 1) false)
