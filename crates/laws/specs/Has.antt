-- Whether a number is in a list. Assumes nothing.
use Rattle.std.specs.Prelude.{ℕ, Bool, false, ◌||◌, List, [], ◌∷◌, eqb}

abbrev pub has : ℕ → List ℕ → Bool
has n [] = false
has n (m ∷ l) = eqb n m || has n l
