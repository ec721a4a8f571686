-- What lines that are read without refusal are: within bounds, all of them, and the prints of what they are read as. The starting values ascend,
-- and are those that are to have a line, so that the lines written of the memory that they make are those very lines. Assumes nothing.
use Prim.Native.Nat.{ℕ, zero, suc, ◌+◌, ◌≤◌}
use mathlib.Core.Path.{◌≡◌, refl, ap}
use mathlib.Core.List.{List, [], ◌∷◌, ◌++◌, map}
use native.Mathlib.Omega.{arith}
use lib.Dec.{leb, ltb}
use lib.ListN.{length, set, replicate, length-set}
use borrow.Author.Tests.{leb-false, ltb-false}
use Rattle.std.specs.Prelude.{Option, Some, None}
use Rattle.laws.proofs.Cases.{not_first}
use Rattle.laws.specs.Each.{Each}
use Rattle.kinds.specs.Kind.{last_value}
use Rattle.memory.specs.Memory.{empty}
use Rattle.text.specs.Line.{said_in}
use Rattle.text.proofs.Walk.{PartLeft}
use Rattle.frame.specs.Reading.{lines_fault}
use Rattle.frame.proofs.Lines.{lines_pass}
use Rattle.record.specs.Record.{Fit, record_of}
use Rattle.record.specs.declared.Record.{Record}
use Rattle.record.specs.declared.Record.TheVariants.{Init, AnEvent}
use Rattle.record.proofs.Layouts.{line_says, init_back}
use Rattle.record.specs.declared.form.Form.{Form}
use Rattle.trace.specs.Reading.{SoFar, line_fault, after_line, trace_layout, events_in, inits_in, start_in, start_from}
use Rattle.uses.specs.Cover.{touched}
use Rattle.trace.specs.Fault.{cover_fault}
use Rattle.trace.specs.Writing.{has_line, start_line}
use Rattle.trace.specs.Text.{Valued}
use Rattle.trace.proofs.Covered.{Heard, agrees}
use Rattle.trace.proofs.ReadBack.{tail, its_lines}
use Rattle.uses.proofs.Starts.{Rising, rising_none, starts_filled}
use Rattle.event.specs.Limit.{event_limit}

set_valued : (cells : List ℕ) (p v : ℕ) → Valued cells → v ≤ last_value → Valued (set cells p v)
set_valued [] p v h k = tt
set_valued (c ∷ cells) zero v h k = (k, h.1)
set_valued (c ∷ cells) (suc p) v h k = (h.0, set_valued cells p v h.1 k)

pub zeros : (n : ℕ) → Valued (replicate n 0)
zeros zero = tt
zeros (suc n) = (omega arith, zeros n)

module _ (f : Form) where
  -- what is so of every text that is read: cells and events within bounds
  pub record Bounded (n : ℕ) (cells : List ℕ) (ls : List (List ℕ)) : Type 0 where
    pub size : length (start_in f cells ls) ≡ 256
    pub values : Valued (start_in f cells ls)
    pub events : Each (Fit f) (events_in f ls)
    pub few : n + length (events_in f ls) ≤ event_limit

  abbrev Bounds : SoFar → List (List ℕ) → Type 0
  Bounds s ls = (cells : List ℕ) → length cells ≡ 256 → Valued cells → s.events ≤ event_limit → Bounded s.events cells ls

  bounds_end : (s : SoFar) → Bounds s ([] ∷ [])
  unfolding said_in start_in
  bounds_end s cells q h b = record { size = q; values = h; events = tt; few = omega arith }

  bounds_line : (s : SoFar) (l m : List ℕ) (ls : List (List ℕ)) (r : Option Record) → record_of f l ≡ r → line_fault s r ≡ 0 → Bounds (after_line s r) (m ∷ ls)
      → Bounds s (l ∷ m ∷ ls)
  unfolding said_in start_in
  bounds_line s l m ls None e h g cells q v b = absurd (omega arith)
  bounds_line s l m ls (Some (Init p x)) e h g cells q v b =
      let i = init_back f l p x e in
      let d = g (set cells p x) (simp length-set q) (set_valued cells p x v i.1.1.0) b in
      record { size = rw e d.size; values = rw e d.values; events = rw e d.events; few = rw e d.few }
  bounds_line s l m ls (Some (AnEvent x)) e h g cells q v b =
      let o = leb-false event_limit s.events (not_first (λ (y : ℕ). y) (leb event_limit s.events) 3 0 (λ z. omega arith) h).0 in
      let d = g cells q v (omega (arith, o)) in
      record { size = rw e d.size; values = rw e d.values; events = rw e ((line_says f l x e).1, d.events); few = rw e (omega (arith, d.few)) }

  pub bounded : (side k : ℕ) (ls : List (List ℕ)) → PartLeft ls → (lines_fault (trace_layout f) side k (trace_layout f).start ls).number ≡ 0
      → (cells : List ℕ) → length cells ≡ 256 → Valued cells → Bounded 0 cells ls
  bounded side k ls o h cells q v =
      lines_pass (trace_layout f) side Bounds bounds_end (λ s l m ls. bounds_line s l m ls (record_of f l) refl) k (trace_layout f).start ls o h cells q v (omega arith)

  -- and the lines are the prints of what they are read as: starting values, which ascend, and then events
  pub record Printed (low : ℕ) (ls : List (List ℕ)) : Type 0 where
    pub ascend : Rising low (inits_in f ls)
    pub heard : Each (Heard f) (inits_in f ls)
    pub lines : ls ≡ map start_line (inits_in f ls) ++ tail f (events_in f ls)

  abbrev Prints : SoFar → List (List ℕ) → Type 0
  Prints s ls = Printed s.low ls

  prints_end : (s : SoFar) → Prints s ([] ∷ [])
  unfolding said_in
  prints_end s = record { ascend = tt; heard = tt; lines = refl }

  prints_line : (s : SoFar) (l m : List ℕ) (ls : List (List ℕ)) (r : Option Record) → record_of f l ≡ r → line_fault s r ≡ 0 → Prints (after_line s r) (m ∷ ls)
      → Prints s (l ∷ m ∷ ls)
  unfolding said_in
  prints_line s l m ls None e h g = absurd (omega arith)
  prints_line s l m ls (Some (AnEvent v)) e h g =
      let n = rising_none (inits_in f (m ∷ ls)) g.ascend in
      record {
        ascend = rw (e, n) tt;
        heard = rw (e, n) tt;
        lines = rw (e, n, ← (line_says f l v e).0) (ap (λ (ps : List (List ℕ)). l ∷ ps) (rw n at g.lines));
      }
  prints_line s l m ls (Some (Init p v)) e h g =
      let o : s.low ≤ p = ltb-false p s.low (not_first (λ (y : ℕ). y) (ltb p s.low) 4 0 (λ z. omega arith) h).0 in
      let i = init_back f l p v e in
      record {
        ascend = rw e ((o, omega (arith, i.1.0)), g.ascend);
        heard = rw e (record { value = i.1.1.0; loud = i.1.1.1 }, g.heard);
        lines = rw (e, ← i.0) (ap (λ (ps : List (List ℕ)). l ∷ ps) g.lines);
      }

  pub printed : (side k : ℕ) (ls : List (List ℕ)) → PartLeft ls → (lines_fault (trace_layout f) side k (trace_layout f).start ls).number ≡ 0 → Printed 0 ls
  printed side k ls o h =
      lines_pass (trace_layout f) side Prints prints_end (λ s l m ls. prints_line s l m ls (record_of f l) refl) k (trace_layout f).start ls o h

  -- so with neither 20 nor 21 they are the lines of the memory that they make, and of their events
  module _ (side : ℕ) (ls : List (List ℕ)) (p : Printed 0 ls) (c : (cover_fault f side (inits_in f ls) (events_in f ls)).number ≡ 0) where
    pub lines_back : ls ≡ its_lines f (start_from f empty ls) (events_in f ls)
    unfolding start_in
    lines_back =
        let a = agrees f side (inits_in f ls) (events_in f ls) c p.heard in
        rw (starts_filled (has_line f (touched (events_in f ls))) (inits_in f ls) p.ascend a) p.lines
