-- Laws of tests: what a conjunction, a disjunction or a double negation of tests says, and what holds of a choice by a test. Assumes nothing.
use mathlib.Core.Path.{◌≡◌, refl}
use mathlib.Core.Bool.{Bool, true, false, not, cond, ◌&&◌, ◌||◌}
use lib.Dec.{T}

pub and : (c d : Bool) → T c → T d → T (c && d)
and true d h k = k
and false d h k = h

pub and_left : (c d : Bool) → T (c && d) → T c
and_left true d h = tt
and_left false d h = h

pub and_right : (c d : Bool) → T (c && d) → T d
and_right true d h = h
and_right false d h = absurd h

pub or_left : (c d : Bool) → T c → T (c || d)
or_left true d h = tt
or_left false d h = absurd h

pub or_right : (c d : Bool) → T d → T (c || d)
or_right true d h = tt
or_right false d h = h

pub not_not : (c : Bool) → T (not (not c)) → T c
not_not true h = tt
not_not false h = absurd h

pub yes_not : (c : Bool) → T c → T (not (not c))
yes_not true h = tt
yes_not false h = absurd h

pub yes_cond : (X Y : Type 0) (c : Bool) → T c → X → cond c X Y
yes_cond X Y true h x = x
yes_cond X Y false h x = absurd h

pub no_cond : (X Y : Type 0) (c : Bool) → c ≡ false → Y → cond c X Y
no_cond X Y c e y = rw e y

pub taken : {A : Type 0} (x y : A) (c : Bool) → T c → cond c x y ≡ x
taken x y true h = refl
taken x y false h = absurd h

pub T_true : (c : Bool) → T c → c ≡ true
T_true true h = refl
T_true false h = absurd h
