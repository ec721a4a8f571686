-- Document 01, "Lent room": what a line says, put into a room. Assumes nothing.
use Rattle.std.specs.Prelude.{ℕ, ◌+◌, List, [], ◌∷◌}

-- A room with things put one after the other, the first of them at an index.
unfoldable pub put_all : {A : Type 0} → (List ℕ → ℕ → A → List ℕ) → List ℕ → ℕ → List A → List ℕ
put_all put room i [] = room
put_all put room i (a ∷ bs) = put_all put (put room i a) (i + 1) bs
