-- One location of those that are asked: the answer is that its cells differ and it is not listed, or the answer from the next one on. Assumes nothing.
use Prim.Native.Nat.{ℕ, ◌+◌, ◌≤◌, ◌<◌}
use mathlib.Core.Bool.{Bool, true, false}
use mathlib.Core.List.{List, ◌∷◌}
use mathlib.Core.Path.{◌≡◌, sym, ◌∙◌, ap}
use native.Mathlib.Numerals.{add-one}
use native.Mathlib.Omega.{arith}
use lib.ListN.{length, drop, get_or}
use lib.Seq.{drop-cons, drop-length}
use borrow.Author.Tests.{le-leb}
use Rattle.event.specs.Answer.{answer, done}
use Rattle.event.specs.Told.{is_done, Refuses}
use Rattle.event.specs.declared.Answer.{Answer}
use Rattle.event.specs.Limit.{last_place, places}
use Rattle.memory.specs.Listed.{listed}
use Rattle.rules.specs.Verdict.{start_answer_in}
use Rattle.judge.proofs.Onward.{start_goes, start_skips, start_stops}

module _ (regs : List Bool) (m n : List ℕ) where
  abbrev whole : Answer
  whole = start_answer_in regs 0 m n

  -- the locations before the index are passed
  abbrev pub Passed : ℕ → Type 0
  Passed i = whole ≡ start_answer_in regs i (drop i m) (drop i n)

  module _ (mm : length m ≡ places) (nn : length n ≡ places) (i : ℕ) (t : Passed i) where
    pub passed_all : i ≡ places → done ≡ whole
    unfolding start_answer_in
    passed_all e = let a : i ≡ length m = omega arith in sym (t ∙ rw (a, drop-length m))

    module _ (h : i < places) where
      from_here : whole ≡ start_answer_in regs i (get_or m i 0 ∷ drop (i + 1) m) (get_or n i 0 ∷ drop (i + 1) n)
      from_here =
          let a : i < length m = omega arith in
          let b : i < length n = omega arith in
          t ∙ rw (drop-cons m i 0 a, drop-cons n i 0 b, ← add-one i)

      marked : {b : Bool} → get_or regs i false ≡ b → listed regs i ≡ b
      marked g = let k : i ≤ last_place = omega arith in rw (le-leb i last_place k) g

      pub passed_equal : get_or m i 0 ≡ get_or n i 0 → Passed (i + 1)
      passed_equal e = from_here ∙ (start_goes _ _ _ _ _ _ e ∙ rw (add-one i))

      pub passed_listed : get_or regs i false ≡ true → Passed (i + 1)
      passed_listed g = from_here ∙ (start_skips _ _ _ _ _ _ (marked g) ∙ rw (add-one i))

      pub passed_stops : (get_or m i 0 ≡ get_or n i 0 → ⊥) → get_or regs i false ≡ false → {a : Answer} → a ≡ answer 7 2 i
          → Refuses a × (a ≡ whole)
      passed_stops ne g e = (ap is_done e, e ∙ sym (from_here ∙ start_stops _ _ _ _ _ _ ne (marked g)))
