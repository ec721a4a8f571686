-- The library's test of each number of a list and `has`, which differ in the sides of an equation. Assumes nothing.
use Rattle.std.proofs.Common.{◌≡◌, ℕ, List, [], ◌∷◌, nat_eq, refl, arith}
use Rattle.std.specs.List.{list_any}
use Rattle.laws.specs.Has.{has}

other_side : (m n : ℕ) → nat_eq m n ≡ nat_eq n m
other_side m n = grind arith

pub any_has : (n : ℕ) (l : List ℕ) → list_any (λ m. nat_eq m n) l ≡ has n l
any_has n [] = refl
any_has n (m ∷ l) = rw (other_side m n, any_has n l)
