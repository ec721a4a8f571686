-- What a test finds of every number of a list holds of each number that the list has. Assumes nothing.
use Prim.Native.Nat.{ℕ}
use mathlib.Core.Bool.{Bool, true, false≢true}
use mathlib.Core.List.{List, [], ◌∷◌}
use mathlib.Core.Path.{◌≡◌}
use lib.Dec.{eqb}
use borrow.Author.Tests.{eqb-true}
use Rattle.laws.proofs.Bools.{and_left, and_right}
use Rattle.laws.proofs.Cases.{cases, either}
use Rattle.laws.proofs.Lists.{every}
use Rattle.laws.specs.Has.{has}

pub has_every : (test : ℕ → Bool) (ns : List ℕ) → every test ns ≡ true → (n : ℕ) → has n ns ≡ true → test n ≡ true
has_every test [] t n h = absurd (false≢true h)
has_every test (m ∷ ns) t n h =
    cases (either (eqb n m)) (λ e. rw (eqb-true n m e) (and_left _ _ t))
    (λ e. has_every test ns (and_right (test m) _ t) n (rw e at h))
