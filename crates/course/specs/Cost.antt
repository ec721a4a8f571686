-- Request C-18, how many steps a matching takes: "the gone events plus the pairs of kept events whose order was reversed plus the inserted loads".
-- An entry is the target number of a kept event, or 0 for a gone one. Assumes nothing.
use Rattle.std.specs.Prelude.{Bool, true, false, not, ◌&&◌, List, [], ◌∷◌, ℕ, suc, ◌+◌, ◌-◌, ltb}
use Rattle.rules.specs.Fault.{is_gone}
use Rattle.rules.specs.Moves.{Rules, Phase, Moves, Run, done, step}

-- 1 for yes, 0 for no; and how many numbers of a list pass a test.
abbrev pub bit : Bool → ℕ
bit true = 1
bit false = 0

abbrev pub many : (ℕ → Bool) → List ℕ → ℕ
many p [] = 0
many p (n ∷ ns) = bit (p n) + many p ns

abbrev pub is_kept : ℕ → Bool
is_kept n = not (is_gone n)

-- Two events, the first before the second in the source, are kept, and the second comes before the first in the target.
abbrev pub is_reversed : ℕ → ℕ → Bool
is_reversed n k = is_kept n && (is_kept k && ltb k n)

-- The pairs of kept events whose order is reversed: each event with those after it.
abbrev pub reversed : List ℕ → ℕ
reversed [] = 0
reversed (n ∷ ns) = many (is_reversed n) ns + reversed ns

-- The gone events, the reversed pairs, and the inserted loads, which are the target's events, n of them, but for the kept ones.
abbrev pub cost : ℕ → List ℕ → ℕ
cost n ns = many is_gone ns + reversed ns + (n - many is_kept ns)

-- How many moves there are, and how many steps a run has.
abbrev pub count : {E : Type 0} {may : Rules E} {φ : Phase} {b s t : List E} → Moves may φ b s t → ℕ
count done = 0
count (step m r) = suc (count r)

abbrev pub steps_of : {E : Type 0} {may : Rules E} {s t : List E} → Run may s t → ℕ
steps_of r = count r.1 + count r.2
