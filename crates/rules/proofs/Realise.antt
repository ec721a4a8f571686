-- Demand 3 over any way to see events: with entries that answers 8 and 9 leave, and loads that agree with the near accesses before them, no event
-- shows a fault if and only if a run realises the matching. From items to events by `Traced`, from events to items too. Assumes nothing.
use mathlib.Core.List.{List, []}
use Prim.Native.Nat.{ℕ}
use lib.Dec.{T}
use lib.ListN.{length}
use Rattle.laws.proofs.Lists.{Each}
use Rattle.kinds.specs.Kind.{lawful}
use Rattle.event.specs.declared.Event.{Event}
use Rattle.event.specs.Room.{no_event}
use Rattle.rules.specs.Run.{Inserted, number, viewed, changes, Realises, Traced, Ends}
use Rattle.rules.specs.View.{same, View}
use Rattle.rules.specs.Moves.{Run as RunOf}
use Rattle.rules.specs.Fault.{view_of}
use Rattle.rules.specs.Verdict.{items}
use Rattle.rules.proofs.Item.{Run, New, Reaches, Supported, Above, Gone}
use Rattle.rules.proofs.Place.{Agrees}
use Rattle.rules.proofs.Matching.{Alike}
use Rattle.rules.proofs.Chain.{all_ins, all_ones}
use Rattle.rules.proofs.Canonical.{canonical}
use Rattle.rules.proofs.Clean.{Clean, Faithful, target_items}
use Rattle.rules.proofs.Entries.{Entries, from_start}
use Rattle.rules.proofs.Target.{Given}
use Rattle.rules.proofs.Image.{Over, run_over, over_nil, by_views}
use Rattle.rules.proofs.Traced.{Known, Of, Shows, ends, faithful_run, has_item, has_target, known_new, known_source, likes, of_view, shows_view}
use Rattle.rules.proofs.Traced.{starts, turn, Leaves, Overtakes, image, shows_above, shows_gone, Genuine, genuines}
use Rattle.rules.proofs.Pairing.{at_faithful, faithful_at, numbered_targets, paired}
use Rattle.rules.proofs.Reach.{faultless}
use Rattle.rules.proofs.Order.{ordered_of, orderly_of}
use Rattle.rules.proofs.Fixed.{InOrder, Orderly}
use Rattle.rules.proofs.Sorting.{above_asym}
use Rattle.rules.proofs.FixedImage.{fill_over, lasts_over, lows_over, orderly_over}
use Rattle.rules.proofs.FixedRun.{run_in_order}

-- what the theorem asks of two traces and a matching
pub record Ready (view : Event → View) (s t : List Event) (ns : List ℕ) : Type 0 where
  pub entries : Entries (length t) s ns
  pub source : Agrees (items view s ns)
  pub target : Agrees (target_items view ns 1 t)
  pub lawfuls : Each (λ e. T (lawful e)) t

-- no event shows a fault
pub record Faultfree (view : Event → View) (s t : List Event) (ns : List ℕ) : Type 0 where
  pub at_source : Clean view t [] s ns
  pub at_target : Supported [] (target_items view ns 1 t)

-- the fixed order leads to the target; the events there are those of their numbers, marks included, and at the start an event that stands above a
-- later one may be swapped with it
pub record FixedOrder (view : Event → View) (s t : List Event) (ns : List ℕ) : Type 0 where
  pub last : List Traced
  pub order : InOrder (changes view) (Leaves view s t ns) (Overtakes view s t ns) (number 1 s) last
  pub ends_there : Ends ns 1 last t
  pub genuine : Each (Genuine view s t ns) last
  pub orderly : Orderly (changes view) (Overtakes view s t ns) (number 1 s)

module _ (view : Event → View) (alike : (e f : Event) → T (same e f) → Alike (view e) (view f)) (s t : List Event) (ns : List ℕ)
    (ready : Ready view s t ns) where
  given : Faithful t s ns → Given (items view s ns) (target_items view ns 1 t)
  given f = record {
    source = ready.source;
    target = ready.target;
    numbered = numbered_targets view ns 1 t;
    matched = paired view alike t s ns ready.entries f;
  }

  started : Over (Shows view s t ns) (number 1 s) (items view s ns)
  started = starts view s t ns 0 s ns ready.entries.many (from_start no_event s) (from_start 0 ns)

  -- without faults
  pub in_order : Faultfree view s t ns → FixedOrder view s t ns
  in_order f =
      let r = f.at_source in
      let o = orderly_of (items view s ns) r.ordered in
      let c = canonical (items view s ns) (target_items view ns 1 t) (given r.faithful) (record { lost = r.sound; order = o; extra = f.at_target }) in
      let w = by_views (Shows view s t ns) (viewed view) view_of (shows_view view s t ns) Inserted New in
      let a = lasts_over w (Leaves view s t ns) Gone (shows_gone view s t ns) c.2.removing started in
      let b = lows_over w (Overtakes view s t ns) Above (shows_above view s t ns) c.2.sorting a.2 in
      let d = fill_over w c.2.inserting over_nil b.2 (has_target view s t ns 0 t c.1 (from_start no_event t) ready.lawfuls) in
      record {
        last = d.0;
        order = record { kept = a.0; sorted = b.0; removing = a.1; sorting = b.1; inserting = d.1 };
        ends_there =
            ends view s t ns ready.entries.used_once (faithful_at t s ns ready.entries.many r.faithful) 0 t d.2 c.1 (from_start no_event t);
        genuine = genuines view s t ns d.2;
        orderly = orderly_over w (Overtakes view s t ns) Above (shows_above view s t ns) started o;
      }

  -- and it is a run
  pub realised : Faultfree view s t ns → Realises view s t ns
  unfolding Realises
  realised f =
      let c = in_order f in
      let asym : (x z : Traced) → Overtakes view s t ns x z → Overtakes view s t ns z x → ⊥ = λ x z. above_asym (image view s t ns x) (image view s t ns z) in
      (c.last, run_in_order (changes view) (Leaves view s t ns) (Overtakes view s t ns) asym c.order c.orderly, c.ends_there)

  pub faultfree : Realises view s t ns → Faultfree view s t ns
  unfolding Realises Run Reaches
  faultfree r =
      let u = r.0 in
      let run : RunOf (changes view) (number 1 s) u = r.1 in
      let known : Each (Known view s t ns) u =
      all_ins (Known view s t ns) (λ b x i. known_new view s t ns x i.0) run.2
      (all_ones (Known view s t ns) run.1 (known_source view s t ns 0 s (from_start no_event s))) in
      let f : Faithful t s ns = at_faithful t s ns (faithful_run view s t ns ready.entries u r.2 known) in
      let w = by_views (Of view s t ns) view_of (viewed view) (of_view view s t ns) New Inserted in
      let v = run_over w (has_item view s t ns) run (turn view s t ns started) in
      let g = faultless (items view s ns) (target_items view ns 1 t) (given f) (v.0, likes view s t ns alike 0 t v.2 r.2, v.1) in
      record {
        at_source = record { faithful = f; sound = g.lost; ordered = ordered_of [] (items view s ns) tt g.order };
        at_target = g.extra;
      }
