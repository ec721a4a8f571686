-- P3's traces would be realised by looks, by removing the second load, whichever of the two the matching keeps; but the matching that calls the first
-- gone is refused, and so no run realises it. Assumes nothing.
use mathlib.Core.Path.{◌≡◌, refl, ap}
use mathlib.Core.List.{List, [], ◌∷◌}
use Prim.Native.Nat.{ℕ}
use native.Mathlib.Omega.{arith}
use Rattle.event.specs.Answer.{answer, done}
use Rattle.kinds.specs.Kind.{row, takes, lawful}
use Rattle.memory.specs.Memory.{empty, after, latest, stepped}
use Rattle.event.specs.declared.Answer.{Answer}
use Rattle.rules.specs.View.{view}
use Rattle.rules.specs.Moves.{remove, next, done as ended, step}
use Rattle.rules.specs.Run.{traced, old, Realises}
use Rattle.rules.specs.Verdict.{start_answer_in, count_answer, entry_answer, source_answer, target_answer, verdict}
use Rattle.rules.specs.Demand.{Passed}
use Rattle.rules.specs.Looks.{RealisedByLooks, a_load, two_loads, one_load}
use Rattle.rules.proofs.Theorem.{demand_3}

pub by_looks : RealisedByLooks two_loads one_load
unfolding row
by_looks = (traced (old 1) a_load ∷ [], (traced (old 1) a_load ∷ [], step (next (remove refl)) ended, ended), (tt, tt))

-- the matching `gone`, `keep 1`
abbrev entries : List ℕ
entries = 0 ∷ 1 ∷ []

pub refused : verdict view empty.cells empty.cells two_loads one_load entries ≡ answer 13 1 1
unfolding row verdict start_answer_in count_answer entry_answer source_answer target_answer
refused = refl

passed : Passed empty empty two_loads one_load entries
unfolding row takes lawful stepped after latest start_answer_in count_answer entry_answer
passed = record {
  source_cells = refl;
  target_cells = refl;
  source = tt;
  target = tt;
  start = refl;
  count = refl;
  entries = refl;
}

pub not_realised : Realises view two_loads one_load entries → ⊥
not_realised r =
    let h : answer 13 1 1 ≡ done = rw refused at ((demand_3 empty empty two_loads one_load entries passed).1 r) in
    let z : ◌≡◌ {A = ℕ} 13 0 = ap (λ (a : Answer). a.number) h in absurd (omega arith)
