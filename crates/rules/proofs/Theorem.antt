-- Demand 3, under a list of registers. For a source and a target whose events are lawful and, but for registers, have the latest values, from starting
-- memories that are equal at the locations that are not listed, and for entries that are as many as the source events and that each name a target event
-- of its own: the checker accepts exactly when a run of removals and swaps, then of insertions and swaps, leads from the source to the target, marks
-- apart, every kept event ending at its number and every gone one removed.
-- Accepting says that no event shows a fault, and without faults the run in the fixed order is such a run; a run, read backwards, shows no
-- fault, 10 included. Assumes nothing.
use mathlib.Core.Path.{◌≡◌, sym, ◌∙◌, subst}
use mathlib.Core.Bool.{Bool}
use mathlib.Core.List.{List, []}
use mathlib.Core.Logic.{◌↔◌}
use Prim.Native.Nat.{ℕ}
use lib.Dec.{T, eqb}
use lib.ListN.{length}
use Rattle.memory.specs.Listed.{none_listed}
use Rattle.event.specs.declared.Event.{Event}
use Rattle.event.specs.Answer.{done, first}
use Rattle.event.specs.declared.Answer.{Answer}
use Rattle.memory.specs.declared.Memory.{Memory}
use Rattle.rules.specs.View.{View, view, view_in}
use Rattle.rules.specs.Verdict.{verdict, verdict_in, source_answer, target_answer}
use Rattle.rules.specs.Run.{Realises}
use Rattle.rules.specs.Demand.{Passed, PassedIn, Demand3, Demand3In}
use Rattle.rules.proofs.Realise.{Faultfree, FixedOrder, Ready, faultfree, in_order, realised}
use Rattle.rules.proofs.Latest.{agrees_source, agrees_target, all_lawful_in}
use Rattle.rules.proofs.Same.{alike_in}
use Rattle.rules.proofs.Clean.{both, clean_source, clean_target, source_clean, target_clean}
use Rattle.rules.proofs.Entries.{entries}
use Rattle.rules.proofs.Effect.{truthful}
use Rattle.rules.proofs.Unlisted.{verdict_none, view_none}

module _ (regs : List Bool) (m n : Memory) (s t : List Event) (ns : List ℕ) (p : PassedIn regs m n s t ns) where
  ready : Ready (view_in regs) s t ns
  ready =
      let e = entries (length t) s ns p.count p.entries in
      record {
        entries = e;
        source = agrees_source regs (view_in regs) (truthful regs) m s ns p.source_cells e.many p.source;
        target = agrees_target regs (view_in regs) (truthful regs) n ns t p.target_cells p.target;
        lawfuls = all_lawful_in regs n t p.target;
      }

  -- what is left of the verdict
  left : verdict_in regs m.cells n.cells s t ns ≡ first (source_answer (view_in regs) t 1 [] s ns) (target_answer (view_in regs) ns 1 [] t)
  unfolding verdict_in
  left = rw (p.start, p.count, p.entries)

  pub clean_verdict : verdict_in regs m.cells n.cells s t ns ≡ done → Faultfree (view_in regs) s t ns
  clean_verdict h =
      let c : T (eqb (first (source_answer (view_in regs) t 1 [] s ns) (target_answer (view_in regs) ns 1 [] t)).number 0) =
      subst (λ (a : Answer). T (eqb a.number 0)) (sym (sym left ∙ h)) tt in
      let b = both (source_answer (view_in regs) t 1 [] s ns) (target_answer (view_in regs) ns 1 [] t) c in
      record { at_source = source_clean (view_in regs) t 1 [] s ns b.0; at_target = target_clean (view_in regs) ns 1 [] t b.1 }

  pub verdict_clean : Faultfree (view_in regs) s t ns → verdict_in regs m.cells n.cells s t ns ≡ done
  verdict_clean f = left ∙ rw (clean_source (view_in regs) t 1 [] s ns f.at_source) (clean_target (view_in regs) ns 1 [] t f.at_target)

  -- an accepted matching has the run in the fixed order: the highest removable gone event first, then the lowest place against the target's
  -- order, then the insertions by rising number
  pub in_fixed_order_in : verdict_in regs m.cells n.cells s t ns ≡ done → FixedOrder (view_in regs) s t ns
  in_fixed_order_in h = in_order (view_in regs) (alike_in regs) s t ns ready (clean_verdict h)

pub demand_3_in : Demand3In
demand_3_in regs m n s t ns p = (
  λ h. realised (view_in regs) (alike_in regs) s t ns (ready regs m n s t ns p) (clean_verdict regs m n s t ns p h),
  λ r. verdict_clean regs m n s t ns p (faultfree (view_in regs) (alike_in regs) s t ns (ready regs m n s t ns p) r),
)

-- ---- without a list

module _ (m n : Memory) (s t : List Event) (ns : List ℕ) (p : Passed m n s t ns) where
  abbrev unlisted : verdict_in none_listed m.cells n.cells s t ns ≡ verdict view m.cells n.cells s t ns
  unlisted = verdict_none m.cells n.cells s t ns

  pub in_fixed_order : verdict view m.cells n.cells s t ns ≡ done → FixedOrder view s t ns
  in_fixed_order h = subst (λ (look : Event → View). FixedOrder look s t ns) view_none (in_fixed_order_in none_listed m n s t ns p (unlisted ∙ h))

pub demand_3 : Demand3
demand_3 m n s t ns p =
    subst (λ (look : Event → View). (verdict view m.cells n.cells s t ns ≡ done) ↔ Realises look s t ns) view_none
    (subst (λ (a : Answer). (a ≡ done) ↔ Realises (view_in none_listed) s t ns) (unlisted m n s t ns p) (demand_3_in none_listed m n s t ns p))
