-- What an accepted matching leaves: the target ends with the values that the source ends with, at every location that is not listed. The run's last
-- trace does, and an event and its like leave memories that agree off the list so. Assumes nothing.
use mathlib.Core.Path.{◌≡◌, refl, sym, ◌∙◌, ap}
use mathlib.Core.Bool.{Bool, true, cond, false, ◌||◌, false≢true}
use mathlib.Core.List.{List, [], ◌∷◌, map}
use mathlib.Core.Logic.{inr}
use Prim.Native.Nat.{ℕ, zero, suc, ◌+◌}
use native.Mathlib.Omega.{arith}
use lib.Dec.{T, eqb}
use lib.ListN.{length, get_or, set}
use lib.Seq.{ext_get_or}
use borrow.Author.Tests.{eqb-true}
use Rattle.laws.proofs.Lists.{Each}
use Rattle.kinds.specs.Kind.{lawful}
use Rattle.memory.specs.Listed.{listed, none_listed}
use Rattle.memory.specs.Memory.{stepped, after, left}
use Rattle.event.specs.Answer.{answer, done as accepted}
use Rattle.event.specs.declared.Answer.{Answer}
use Rattle.event.specs.declared.Event.{Event}
use Rattle.memory.specs.declared.Memory.{Memory}
use Rattle.rules.specs.View.{view, view_in, same}
use Rattle.rules.specs.Run.{number, Traced, event_of, Ends, Realises}
use Rattle.rules.specs.Demand.{final, OutcomeIn, Passed}
use Rattle.rules.specs.Verdict.{start_answer_in, verdict}
use Rattle.rules.proofs.Same.{Shared, shared}
use Rattle.rules.proofs.Truth.{T_true}
use Rattle.rules.proofs.Effect.{cell, step_length}
use Rattle.rules.proofs.Latest.{all_lawful_in}
use Rattle.rules.proofs.Theorem.{demand_3_in}
use Rattle.rules.proofs.Chain.{by_end}
use Rattle.rules.proofs.Along.{values_in}
use Rattle.memory.proofs.Unlisted.{none_listed_lem}
use Rattle.rules.proofs.Unlisted.{verdict_none}

-- ---- the same events leave the same memory

step_cells : (m : Memory) (e : Event) → T (lawful e) → (stepped m e).memory ≡ record { cells = after m.cells e }
unfolding stepped
step_cells m e l = rw (T_true (lawful e) l)

same_after : (l : List ℕ) (e f : Event) → Shared e f → after l e ≡ after l f
unfolding after
same_after l e f r = rw (r.kinds, r.places, r.firsts, r.seconds)

-- ---- memories that agree off the list

-- a cell set in both
set_one : (a b : List ℕ) (p v w l : ℕ) → length a ≡ length b → (p ≡ l → v ≡ w) → get_or a l 0 ≡ get_or b l 0 → get_or (set a p v) l 0 ≡ get_or (set b p w) l 0
set_one [] [] p v w l e g h = refl
set_one [] (y ∷ b) p v w l e g h = absurd (omega arith)
set_one (x ∷ a) [] p v w l e g h = absurd (omega arith)
set_one (x ∷ a) (y ∷ b) zero v w zero e g h = g refl
set_one (x ∷ a) (y ∷ b) zero v w (suc l) e g h = h
set_one (x ∷ a) (y ∷ b) (suc p) v w zero e g h = h
set_one (x ∷ a) (y ∷ b) (suc p) v w (suc l) e g h = set_one a b p v w l (omega arith) (λ q. g (ap suc q)) h

-- cells that hold one value hold one value after an event, whatever the others hold
after_one : (a b : List ℕ) (e : Event) (l : ℕ) → length a ≡ length b → get_or a l 0 ≡ get_or b l 0 → get_or (after a e) l 0 ≡ get_or (after b e) l 0
unfolding after
after_one a b e l q h =
    set_one a b e.place (left (get_or a e.place 0) e) (left (get_or b e.place 0) e) l q
    (λ i. ap (λ v. left v e) (ap (λ p. get_or a p 0) i ∙ h ∙ ap (λ p. get_or b p 0) (sym i))) h

module _ (regs : List Bool) where
  -- as many cells, and the same values off the list
  record Off (m n : Memory) : Type 0 where
    sizes : length m.cells ≡ length n.cells
    agrees : (l : ℕ) → listed regs l ≡ false → cell m l ≡ cell n l

  off_step : (m n : Memory) (e f : Event) → T (same e f) → T (lawful e) → T (lawful f) → Off m n → Off (stepped m e).memory (stepped n f).memory
  off_step m n e f h a b o = record {
    sizes = step_length m e ∙ (o.sizes ∙ sym (step_length n f));
    agrees = λ l q.
        ap (λ (z : Memory). cell z l) (step_cells m e a)
        ∙ after_one m.cells n.cells e l o.sizes (o.agrees l q)
        ∙ ap (λ (z : List ℕ). get_or z l 0) (same_after n.cells e f (shared e f h))
        ∙ ap (λ (z : Memory). cell z l) (sym (step_cells n f b));
  }

  ends_off : (ns : List ℕ) (k : ℕ) (m n : Memory) (u : List Traced) (t : List Event) → Ends ns k u t → Each (λ e. T (lawful e)) (map event_of u)
      → Each (λ e. T (lawful e)) t → Off m n → Off (final m (map event_of u)) (final n t)
  ends_off ns k m n [] [] h a b o = o
  ends_off ns k m n [] (e ∷ t) h a b o = absurd h
  ends_off ns k m n (x ∷ u) [] h a b o = absurd h
  ends_off ns k m n (x ∷ u) (f ∷ t) h a b o =
      let e = event_of x in
      ends_off ns (suc k) (stepped m e).memory (stepped n f).memory u t h.2 a.1 b.1 (off_step m n e f h.1 a.0 b.0 o)

  -- answer 7: from the location j on, cells that agree off the list
  start_off : (j : ℕ) (c d : List ℕ) → length c ≡ length d → start_answer_in regs j c d ≡ accepted
      → (l i : ℕ) → i ≡ j + l → listed regs i ≡ false → get_or c l 0 ≡ get_or d l 0
  unfolding start_answer_in
  start_off j [] [] q h l i e z = refl
  start_off j [] (w ∷ d) q h l i e z = absurd (omega arith)
  start_off j (v ∷ c) [] q h l i e z = absurd (omega arith)
  start_off j (v ∷ c) (w ∷ d) q h l i e z = go (eqb v w) (listed regs j) refl refl h l e (λ h l e. start_off (suc j) c d (omega arith) h l i e z)
    where
      go : (a b : Bool) → eqb v w ≡ a → listed regs j ≡ b → cond (a || b) (start_answer_in regs (suc j) c d) (answer 7 2 j) ≡ accepted
          → (l : ℕ) → i ≡ j + l → (start_answer_in regs (suc j) c d ≡ accepted → (l : ℕ) → i ≡ suc j + l → get_or c l 0 ≡ get_or d l 0)
          → get_or (v ∷ c) l 0 ≡ get_or (w ∷ d) l 0
      go true b r y h zero e ih = eqb-true v w r
      go true b r y h (suc l) e ih = ih h l (omega arith)
      go false true r y h zero e ih = let k : i ≡ j = omega arith in absurd (false≢true (sym z ∙ ap (listed regs) k ∙ y))
      go false true r y h (suc l) e ih = ih h l (omega arith)
      go false false r y h l e ih = let k : ◌≡◌ {A = ℕ} 7 0 = ap (λ (r : Answer). r.number) h in absurd (omega arith)

-- ---- the target's last memory

pub events_number : (i : ℕ) (s : List Event) → map event_of (number i s) ≡ s
events_number i [] = refl
events_number i (e ∷ s) = ap (λ (r : List Event). e ∷ r) (events_number (suc i) s)

pub outcome_in_lem : OutcomeIn
unfolding Realises
outcome_in_lem regs m n s t ns p h l z =
    let sizes = p.source_cells ∙ sym p.target_cells in
    let start : Off regs m n =
    record { sizes = sizes; agrees = λ l q. start_off regs 0 m.cells n.cells sizes p.start l l (omega arith) q } in
    let r : Realises (view_in regs) s t ns = (demand_3_in regs m n s t ns p).0 h in
    let u = r.0 in
    let q = events_number 1 s in
    let v = values_in regs m (number 1 s) u r.1 p.source_cells (rw q p.source) u (inr (by_end r.1.2)) in
    let e = ends_off regs ns 1 m n u t r.2 (all_lawful_in regs m (map event_of u) v.0) (all_lawful_in regs n t p.target) start in
    sym (e.agrees l z) ∙ ap (λ (k : Memory). cell k l) (v.1 ∙ ap (final m) q)

-- without a list: at every location
final_length : (m : Memory) (s : List Event) → length (final m s).cells ≡ length m.cells
final_length m [] = refl
final_length m (e ∷ s) = final_length (stepped m e).memory s ∙ step_length m e

pub same_memory : (m n : Memory) (s t : List Event) (ns : List ℕ) → Passed m n s t ns → verdict view m.cells n.cells s t ns ≡ accepted
    → final n t ≡ final m s
same_memory m n s t ns p h =
    let o = outcome_in_lem none_listed m n s t ns p (verdict_none m.cells n.cells s t ns ∙ h) in
    ap (λ (l : List ℕ). record { cells = l })
    (ext_get_or 0 (final n t).cells (final m s).cells (final_length n t ∙ p.target_cells ∙ sym (final_length m s ∙ p.source_cells))
    (λ l _. o l (none_listed_lem l)))
