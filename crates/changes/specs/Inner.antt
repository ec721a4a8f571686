-- What a step makes of the numbers that stand, by index. Assumes nothing.
use Rattle.std.specs.Prelude.{List, ◌∷◌, ◌++◌, ℕ, suc, get_or, take, drop}

-- numbers without the one at an index, with two adjacent ones exchanged, and with one more
abbrev pub without : ℕ → List ℕ → List ℕ
without i ks = take i ks ++ drop (suc i) ks

abbrev pub exchanged : ℕ → List ℕ → List ℕ
exchanged i ks = take i ks ++ get_or ks (suc i) 0 ∷ get_or ks i 0 ∷ drop (suc (suc i)) ks

abbrev pub with_new : ℕ → ℕ → List ℕ → List ℕ
with_new i k ks = take i ks ++ k ∷ drop i ks
