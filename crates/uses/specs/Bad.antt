-- The first of a list that is bad, as answers 18 to 21 name it. Assumes nothing.
use Rattle.std.specs.Prelude.{ℕ, ◌+◌, Bool, cond, List, [], ◌∷◌}
use Rattle.event.specs.Answer.{answer, done}
use Rattle.event.specs.declared.Answer.{Answer}

-- The first of a list of which a test says that it is bad, the first of the list having the number k; an answer of this number and side.
unfoldable pub first_bad : {A : Type 0} → (A → Bool) → ℕ → ℕ → ℕ → List A → Answer
first_bad bad number side k [] = done
first_bad bad number side k (a ∷ bs) = cond (bad a) (answer number side k) (first_bad bad number side (k + 1) bs)
