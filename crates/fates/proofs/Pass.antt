-- One source event of the pass from the front: its fault by what the pass keeps, and the answer, which is that fault or the answer from the next event
-- on. Assumes nothing.
use mathlib.Core.Path.{◌≡◌, refl, sym, ◌∙◌}
use mathlib.Core.Bool.{Bool, true, false, cond}
use mathlib.Core.List.{List, [], ◌∷◌}
use Prim.Native.Nat.{ℕ, ◌+◌, ◌-◌, ◌≤◌, ◌<◌}
use native.Mathlib.Numerals.{add-one}
use native.Mathlib.Omega.{arith}
use lib.Dec.{eqb}
use borrow.Author.Tests.{eqb-true, eqb-false, ne_eqb}
use lib.ListN.{length, get_or, drop, replicate}
use Rattle.std.specs.Prelude.{Option, None, Some}
use Rattle.event.specs.Answer.{answer, done}
use Rattle.event.specs.Told.{Refuses}
use Rattle.event.specs.declared.Answer.{Answer}
use Rattle.event.specs.declared.Event.{Event}
use Rattle.event.specs.Room.{Placed, event_at, onward, capacity, whole_events}
use Rattle.event.specs.Limit.{places}
use Rattle.rules.specs.View.{view_in}
use Rattle.rules.specs.Fault.{Item, closing, fate, group, item}
use Rattle.rules.specs.Verdict.{source_answer, source_fault}
use Rattle.fates.specs.Pass.{cell_of, closing_at, fault_of, items_from, source_fault_by, tops_of, witnessed}
use Rattle.sight.proofs.Events.{drop_next, onward_next, place_in}
use Rattle.sight.proofs.Sight.{sees_at}
use Rattle.fates.proofs.Cells.{fault_at_lem}
use Rattle.fates.proofs.Onward.{source_goes, source_stops}
use Rattle.fates.proofs.Tallied.{Tallied, right, tallied_start, witness_in}

-- a fault that there is, and none
pub some_fault : (k : ℕ) {f : ℕ} → Some f ≡ fault_of k → (k ≡ f) × (f ≡ 0 → ⊥)
some_fault k {f} h = go (eqb k 0) refl h
  where
    go : (c : Bool) → eqb k 0 ≡ c → Some f ≡ cond c None (Some k) → (k ≡ f) × (f ≡ 0 → ⊥)
    go true e g = let z : Some f ≡ None = g in absurd cc
    go false e g = let z : Some f ≡ Some k = g in let y : k ≡ f = cc in (y, λ x. eqb-false k 0 e (y ∙ x))

pub no_fault : (k : ℕ) → None ≡ fault_of k → k ≡ 0
no_fault k h = go (eqb k 0) refl h
  where
    go : (c : Bool) → eqb k 0 ≡ c → None ≡ cond c None (Some k) → k ≡ 0
    go true e g = eqb-true k 0 e
    go false e g = let z : None ≡ Some k = g in absurd cc

abbrev pub whole : List Bool → List ℕ → List ℕ → List ℕ → Answer
whole regs source target ns = source_answer (view_in regs) (whole_events target) 1 [] (whole_events source) ns

-- the events before the index are passed
pub record Passed (regs : List Bool) (source target ns : List ℕ) (fresh : List Bool) (last : List (Option ℕ)) (here : List ℕ) (all walls i : ℕ) : Type 0 where
  pub behind : List Item
  pub tallied : Tallied fresh last here all walls behind
  pub answers : whole regs source target ns
      ≡ source_answer (view_in regs) (whole_events target) (i + 1) behind (onward source i (capacity source - i)) (drop i ns)

module _ (regs : List Bool) (source target ns : List ℕ) (size : length ns ≡ capacity source) where
  pub passed_start : Passed regs source target ns (replicate places true) (replicate places None) (replicate places 0) 0 0 0
  passed_start =
      let e : capacity source - 0 ≡ capacity source = omega arith in
      record { behind = []; tallied = tallied_start; answers = rw e }

module _ {regs : List Bool} {source target ns : List ℕ} (size : length ns ≡ capacity source) where
  module _ {fresh : List Bool} {last : List (Option ℕ)} {here : List ℕ} {all walls i : ℕ} (t : Passed regs source target ns fresh last here all walls i) where
    pub passed_all : length ns ≤ i → done ≡ whole regs source target ns
    unfolding onward source_answer
    passed_all h = let e : capacity source - i ≡ 0 = omega arith in sym (t.answers ∙ rw e)

    -- the event at the index, at the location p
    module _ (low : Placed source) (h : i < length ns) (e : Event) (q : e ≡ event_at source i) {p : ℕ} (r : p ≡ e.place) where
      abbrev entry : ℕ
      entry = get_or ns i 0

      abbrev now : Item
      now = item (view_in regs e) (fate entry)

      abbrev ahead : List Item
      ahead = items_from regs source ns (i + 1)

      abbrev fault : ℕ
      fault = source_fault (whole_events target) t.behind e now ahead

      from_here : whole regs source target ns
          ≡ source_answer (view_in regs) (whole_events target) (i + 1) t.behind (e ∷ onward source (i + 1) (capacity source - (i + 1)))
          (entry ∷ drop (i + 1) ns)
      from_here = let m : i < capacity source = omega arith in t.answers ∙ rw (onward_next source (capacity source) i e m q, drop_next ns i entry h refl)

      pub place_below : p < places
      place_below = let m : i < capacity source = omega arith in place_in source low i m e q r

      -- its fault
      abbrev by : Bool → Option ℕ → ℕ
      by flag w =
          source_fault_by (whole_events target) e (view_in regs e) entry (cell_of (get_or fresh p false) flag) (witnessed w)
          (tops_of all walls (get_or here p 0))

      fault_by : {flag : Bool} → flag ≡ closing_at regs source ns i → {w : Option ℕ} → w ≡ witness_in fresh last p → fault ≡ by flag w
      fault_by {flag} g v =
          let f : flag ≡ closing (group p ahead) = g ∙ rw (r, q) in
          fault_at_lem (whole_events target) e t.behind ahead _ _ _ entry (sees_at regs e r) (right t.tallied ahead p place_below f refl v refl)

      pub passed_stops : {flag : Bool} → flag ≡ closing_at regs source ns i → {w : Option ℕ} → w ≡ witness_in fresh last p
          → {k : ℕ} → Some k ≡ fault_of (by flag w) → {a : Answer} → a ≡ answer k 1 (i + 1) → Refuses a × (a ≡ whole regs source target ns)
      passed_stops {flag} g {w} v f m =
          let z = some_fault (by flag w) f in
          (rw (m, ne_eqb _ 0 z.1), m ∙ sym (from_here ∙ source_stops (view_in regs) _ _ _ _ _ _ _ z.1 (fault_by g v ∙ z.0)))

      pub passed_next : {flag : Bool} → flag ≡ closing_at regs source ns i → {w : Option ℕ} → w ≡ witness_in fresh last p → None ≡ fault_of (by flag w)
          → {fresh' : List Bool} {last' : List (Option ℕ)} {here' : List ℕ} {all' walls' : ℕ}
          → Tallied fresh' last' here' all' walls' (now ∷ t.behind) → Passed regs source target ns fresh' last' here' all' walls' (i + 1)
      passed_next {flag} g {w} v f m = record {
        behind = now ∷ t.behind;
        tallied = m;
        answers = from_here ∙ (source_goes (view_in regs) _ _ _ _ _ _ _ (fault_by g v ∙ no_fault (by flag w) f) ∙ rw (← add-one (i + 1)));
      }
