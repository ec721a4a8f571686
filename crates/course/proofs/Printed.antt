-- An accepted matching is replayed by its next steps from the source: each is allowed, none is missing, and the last trace is the target, marks
-- apart. Every removal takes a gone event away, every swap a pair against the order, and every insertion adds an event: so there are as many steps as
-- the matching costs, and no run that realises it has fewer. Assumes nothing.
use mathlib.Core.Path.{◌≡◌, refl, subst}
use mathlib.Core.Bool.{Bool}
use mathlib.Core.List.{List}
use Prim.Native.Nat.{ℕ, ◌+◌, ◌≤◌}
use native.Mathlib.Omega.{arith}
use lib.ListN.{length}
use Rattle.event.specs.declared.Event.{Event}
use Rattle.memory.specs.declared.Memory.{Memory}
use Rattle.rules.specs.View.{View, view_in}
use Rattle.rules.specs.Run.{number, changes}
use Rattle.rules.specs.Demand.{PassedIn}
use Rattle.rules.proofs.Entries.{Entries, entries}
use Rattle.rules.proofs.FixedRun.{orderly_lasts}
use Rattle.rules.proofs.Realise.{FixedOrder}
use Rattle.rules.proofs.Traced.{Leaves, Overtakes}
use Rattle.rules.proofs.Theorem.{in_fixed_order_in}
use Rattle.changes.proofs.Allow.{allowed as is_move}
use Rattle.course.specs.Step.{Replays}
use Rattle.course.specs.Cost.{cost}
use Rattle.course.specs.Promise.{Printed, AsMany, NoFewer, Allowed, ReplaysRun, pairs}
use Rattle.course.proofs.Runs.{replays_run as is_run}
use Rattle.course.proofs.Counts.{few_steps, gone_or_kept, inverted_begin, length_number, lost_begin, none_lost}
use Rattle.course.proofs.Least.{least}
use Rattle.course.proofs.Tags.{Stands, numbers, stand}
use Rattle.course.proofs.Remove.{removing}
use Rattle.course.proofs.Sort.{lows_back, sorting}
use Rattle.course.proofs.Insert.{inserting, fill_back, inverted_rises, rises_fill}
use Rattle.event.specs.Limit.{event_limit}

-- the fixed order is a replay
pub replayed : (view : Event → View) (s t : List Event) (ns : List ℕ) → length ns ≡ length s → (o : FixedOrder view s t ns) → length t ≤ event_limit
    → Replays view ns t (cost (length t) ns) (number 1 s) o.last
replayed view s t ns q o l =
    let c = o.order in
    let e = o.ends_there in
    let p = fill_back (Stands ns) c.inserting (stand ns 0 o.last t e) in
    let f = orderly_lasts (changes view) (Leaves view s t ns) (Overtakes view s t ns) c.removing o.orderly in
    let i = inserting ns view s t 0 t c.inserting refl tt e o.genuine (omega arith) l in
    let j = sorting view s t ns c.sorting f p o.last i.0 i.1 in
    let k = removing view s t ns c.removing o.last j.0 j.1 in
    let inserted = i.2 in
    let swapped = j.2 in
    let kept = j.3 in
    let removed = k.2 in
    let shorter = k.3 in
    let same-pairs = k.4 in
    let nothing-lost = none_lost ns c.kept (lows_back view s t ns (Stands ns) c.sorting p) in
    let none-inverted = inverted_rises ns 0 c.sorted (rises_fill ns 0 1 c.inserting (numbers ns 0 o.last t e) (omega arith)) in
    let lost-first = lost_begin ns s q in
    let inverted-first = inverted_begin ns s q in
    let long = length_number 1 s in
    let entries = gone_or_kept ns in
    let z : k.0 ≡ cost (length t) ns = omega arith in
    subst (λ n. Replays view ns t n (number 1 s) o.last) z k.1

module _ (regs : List Bool) (m n : Memory) (s t : List Event) (ns : List ℕ) (p : PassedIn regs m n s t ns) where
  entered : Entries (length t) s ns
  entered = entries (length t) s ns p.count p.entries

pub as_many : AsMany
as_many regs m n s t ns p l h =
    let o = in_fixed_order_in regs m n s t ns p h in
    (o.last, replayed (view_in regs) s t ns (entered regs m n s t ns p).many o l, o.ends_there)

pub no_fewer : NoFewer
no_fewer regs m n s t ns p u r e = least ns (view_in regs) s t (entered regs m n s t ns p) u r e

pub printed : Printed
printed regs m n s t ns p l h =
    let r = as_many regs m n s t ns p l h in
    let q = (entered regs m n s t ns p).many in
    let few = few_steps (length t) ns in
    (cost (length t) ns, r.0, r.1, r.2, subst (λ k. cost (length t) ns ≤ k + pairs k + length t) q few)

pub allowed : Allowed
allowed look t l st u v h = is_move look t l st u v h

pub replays_run : ReplaysRun
replays_run look ns t l k u w r = is_run look ns t l r
