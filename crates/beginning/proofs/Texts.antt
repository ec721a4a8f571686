-- The run of accepted texts is replayed in the array that a caller lends; a refused matching has no step. Assumes nothing.
use mathlib.Core.Path.{◌≡◌, refl, sym, ◌∙◌, ap, subst}
use mathlib.Core.Bool.{Bool, true, false, false≢true}
use mathlib.Core.Option.{none, some, none-ne-some}
use mathlib.Core.List.{List}
use Prim.Native.Nat.{ℕ, zero, suc, ◌≤◌, ◌<◌}
use native.Mathlib.Omega.{arith}
use lib.Dec.{eqb, ltb}
use lib.ListN.{length, drop}
use lib.Seq.{take_at}
use borrow.Author.Tests.{eqb-false, eqb-true, le-leb, ltb-false, ltb-true, ne_eqb}
use Rattle.laws.proofs.Cases.{cases, either}
use Rattle.event.specs.Answer.{done}
use Rattle.memory.specs.Listed.{none_listed}
use Rattle.event.specs.declared.Answer.{Answer}
use Rattle.event.specs.declared.Event.{Event}
use Rattle.registers.specs.Reading.{ListRead}
use Rattle.rules.specs.View.{View, view_in}
use Rattle.rules.specs.Moves.{Run as RunOf}
use Rattle.rules.specs.Run.{Ends, Traced, changes, number}
use Rattle.rules.specs.Demand.{PassedIn}
use Rattle.rules.proofs.Latest.{all_lawful_in}
use Rattle.rules.proofs.Unlisted.{view_none}
use Rattle.checker.specs.Check.{Lent, check_in, source_read_in, target_read_in, verdict_for}
use Rattle.checker.specs.Demand.{entries_for, source_of, target_of}
use Rattle.checker.proofs.Answers.{by_list as check_by_list, by_refused as check_by_refused}
use Rattle.checker.proofs.Demand3.{judged, passes}
use Rattle.changes.specs.Apply.{front, is_open, outcome_by, stands}
use Rattle.changes.specs.Change.{applied}
use Rattle.changes.specs.Tags.{codes, trace}
use Rattle.changes.specs.declared.Run.{Run}
use Rattle.changes.specs.declared.Step.{Step}
use Rattle.changes.specs.declared.Step.TheVariants.{Remove, Swap, Insert, Done, Stuck}
use Rattle.course.specs.Cost.{cost}
use Rattle.steps.specs.Play.{Played, is_done, next_by, play_by}
use Rattle.beginning.specs.Start.{beginning, cost_in, tags_begun, started_in, started_listed, started_of, tags_in, tags_of}
use Rattle.beginning.specs.Start.{counted}
use Rattle.beginning.specs.Promise.{AsManyBy, AsManyIn, AsManyListed, AsManyTexts, CheckedListed, NoFewerBy, NoFewerIn, NoFewerListed, NoFewerTexts}
use Rattle.beginning.specs.Promise.{NoStepBy, NoStepListed, PrintedBy, PrintedIn, PrintedListed, PrintedTexts, replay_by}
use Rattle.course.specs.Step.{Replays, ended, next_step, stepped}
use Rattle.beginning.specs.declared.Started.{Started}
use Rattle.course.proofs.Runs.{replays_run}
use Rattle.beginning.proofs.Begun.{admitted, by_list, by_refused, source_few, standing, target_few}
use Rattle.steps.proofs.Kept.{running}
use Rattle.steps.proofs.Plays.{next_open, open_after, play_off, play_on, stands_after}
use Rattle.course.proofs.Printed.{as_many, no_fewer, printed}
use Rattle.beginning.proofs.Counted.{counted_length, trace_source}
use Rattle.event.specs.Limit.{event_limit}

-- ---- a replay in the array is a replay

record Reaches (s t : List Event) (p : Played) (k : ℕ) (w : List Traced) : Type 0 where
  over : p.ended ≡ true
  count : p.steps ≡ k
  last : stands s t p.run p.tags ≡ w

module _ (look : Event → View) (s t : List Event) (ns : List ℕ) where
  outcome_open : (r : Run) (A : List ℕ) (st : Step) (u : List Traced) → is_open r ≡ true → stands s t r A ≡ u
      → outcome_by look s t r A st ≡ applied look t st u
  outcome_open r A st u h e = rw (h, e)

  reaches : {k : ℕ} {u w : List Traced} → Replays look ns t k u w → (b : ℕ) (r : Run) (A : List ℕ) → k ≤ b → is_open r ≡ true → stands s t r A ≡ u
      → Reaches s t (play_by look s t ns b r A) k w
  reaches (ended {u = u} e) b r A l o q =
      let d : next_by look s t ns 0 r A ≡ Done = next_open look s t ns 0 r A u o q ∙ e in
      let z : outcome_by look s t r A (next_by look s t ns 0 r A) ≡ none = outcome_open r A (next_by look s t ns 0 r A) u o q ∙ ap (λ x. applied look t x u) d in
      rw (play_off look s t ns b r A z, d) (record { over = refl; count = refl; last = q })
  reaches (stepped {v = v} h r') zero r A l o q = absurd (omega arith)
  reaches (stepped {u = u} {v = v} h r') (suc b) r A l o q =
      let st = next_by look s t ns 0 r A in
      let d : st ≡ next_step look ns (length t) u = next_open look s t ns 0 r A u o q in
      let z : outcome_by look s t r A st ≡ some v = outcome_open r A st u o q ∙ (ap (λ x. applied look t x u) d ∙ h) in
      let i = reaches r' b (running v) (front (codes v) A) (omega arith) (open_after look s t ns r A st v z) (stands_after look s t ns r A st v z) in
      rw (play_on look s t ns b r A v z) (record { over = i.over; count = ap suc i.count; last = i.last })

  -- with a smaller budget a step is left
  not_done : (st : Step) (u v : List Traced) → applied look t st u ≡ some v → is_done st ≡ false
  not_done (Remove i k) u v h = refl
  not_done (Swap i) u v h = refl
  not_done (Insert i) u v h = refl
  not_done Done u v h = absurd (none-ne-some v h)
  not_done Stuck u v h = refl

  cut_short : {k : ℕ} {u w : List Traced} → Replays look ns t k u w → (b : ℕ) (r : Run) (A : List ℕ) → b < k → is_open r ≡ true → stands s t r A ≡ u
      → (play_by look s t ns b r A).ended ≡ false
  cut_short (ended e) b r A l o q = absurd (omega arith)
  cut_short (stepped {u = u} {v = v} h r') zero r A l o q =
      rw (next_open look s t ns 0 r A u o q) (not_done (next_step look ns (length t) u) u v h)
  cut_short (stepped {u = u} {v = v} h r') (suc b) r A l o q =
      let st = next_by look s t ns 0 r A in
      let z : outcome_by look s t r A st ≡ some v =
      outcome_open r A st u o q ∙ (ap (λ x. applied look t x u) (next_open look s t ns 0 r A u o q) ∙ h) in
      rw (play_on look s t ns b r A v z)
      (cut_short r' b (running v) (front (codes v) A) (omega arith) (open_after look s t ns r A st v z) (stands_after look s t ns r A st v z))

-- ---- an accepted matching

module _ (regs : List Bool) (l : Lent) (h : (check_in regs l).answer ≡ done) where
  zero_number : (check_in regs l).answer.number ≡ 0
  zero_number = ap (λ (a : Answer). a.number) h

  ready : PassedIn regs (source_read_in regs l).memory (target_read_in regs l).memory (source_of l) (target_of l) (entries_for l)
  ready = passes regs l (admitted regs l zero_number)

  accepted : verdict_for regs l ≡ done
  accepted = sym (judged regs l (admitted regs l zero_number).reading) ∙ h

  few_targets : length (target_of l) ≤ event_limit
  few_targets = target_few regs l zero_number

  open_begun : is_open (beginning (check_in regs l)) ≡ true
  open_begun = rw (zero_number, standing regs l zero_number) (le-leb (length (source_of l)) event_limit (source_few regs l zero_number))

  stands_begun : (tags : List ℕ) → stands (source_of l) (target_of l) (beginning (check_in regs l)) (tags_begun (check_in regs l) tags) ≡ number 1 (source_of l)
  stands_begun tags =
      let n = length (source_of l) in
      rw (zero_number, standing regs l zero_number)
      (ap (trace (source_of l) (target_of l)) (take_at (counted 0 n) (drop (length (counted 0 n)) tags) n (counted_length 0 n))
      ∙ trace_source (source_of l) (target_of l) (source_few regs l zero_number))

  costs : cost_in regs l ≡ cost (length (target_of l)) (entries_for l)
  costs = rw zero_number

module _ (regs : List Bool) where
  pub printed_in : PrintedIn regs
  unfolding verdict_for
  printed_in l tags h budget b =
      let look = view_in regs in
      let s = source_of l in
      let t = target_of l in
      let ns = entries_for l in
      let p = ready regs l h in
      let r = printed regs (source_read_in regs l).memory (target_read_in regs l).memory s t ns p (few_targets regs l h) (accepted regs l h) in
      let k = r.4 in
      let q = reaches look s t ns r.2 budget (beginning (check_in regs l)) (tags_begun (check_in regs l) tags) (omega arith) (open_begun regs l h)
      (stands_begun regs l h tags) in
      let c = q.count in (
        q.over,
        omega arith,
        subst (λ z. RunOf (changes look) (number 1 s) z) (sym q.last)
            (replays_run look ns t (all_lawful_in regs (target_read_in regs l).memory t p.target) r.2),
        subst (λ z. Ends ns 1 z t) (sym q.last) r.3,
      )

-- ---- how many steps

by_size : (m n : ℕ) → (n < m → m ≤ n) → m ≤ n
by_size m n f = go (ltb n m) refl
  where
    go : (c : Bool) → ltb n m ≡ c → m ≤ n
    go true e = f (ltb-true n m e)
    go false e = ltb-false n m e

module _ (regs : List Bool) where
  pub as_many_in : AsManyIn regs
  unfolding verdict_for
  as_many_in l tags h budget =
      let look = view_in regs in
      let s = source_of l in
      let t = target_of l in
      let ns = entries_for l in
      let r = as_many regs (source_read_in regs l).memory (target_read_in regs l).memory s t ns (ready regs l h) (few_targets regs l h) (accepted regs l h) in
      let p = replay_by (started_in regs) (tags_in regs) look l tags budget in
      let e = costs regs l h in
      let begun = beginning (check_in regs l) in
      let first = tags_begun (check_in regs l) tags in
      let goes : cost (length t) ns ≤ budget → Reaches s t p (cost (length t) ns) r.0 =
      λ b. reaches look s t ns r.1 budget begun first b (open_begun regs l h) (stands_begun regs l h tags) in
      let stops : budget < cost (length t) ns → p.ended ≡ false =
      λ b. cut_short look s t ns r.1 budget begun first b (open_begun regs l h) (stands_begun regs l h tags) in
      rw e (
        (
          λ q. by_size (cost (length t) ns) budget (λ b. absurd (false≢true (sym (stops b) ∙ q))),
          λ b. (goes b).over,
        ),
        λ b. (goes b).count,
      )

  pub no_fewer_in : NoFewerIn regs
  no_fewer_in l h u r e =
      rw (costs regs l h)
      (no_fewer regs (source_read_in regs l).memory (target_read_in regs l).memory (source_of l) (target_of l) (entries_for l) (ready regs l h) u r e)

-- ---- without a list

pub printed_texts : PrintedTexts
printed_texts = subst (PrintedBy started_of tags_of) view_none (printed_in none_listed)

pub as_many_texts : AsManyTexts
as_many_texts = subst (AsManyBy started_of tags_of) view_none (as_many_in none_listed)

pub no_fewer_texts : NoFewerTexts
no_fewer_texts = subst (NoFewerBy started_of tags_of) view_none (no_fewer_in none_listed)

-- ---- a refused one

pub no_step : (regs : List Bool) (look : Event → View) → NoStepBy (started_in regs) (tags_in regs) look
no_step regs look l tags z s t ns swapped st = let e = ne_eqb (check_in regs l).answer.number 0 z in (rw e, rw e, rw e)

-- ---- with the text of a list: one that refuses is the answer, and accepts nothing

module _ (list : ListRead) where
  pub checked_listed : CheckedListed list
  checked_listed l =
      cases (either (eqb list.answer.number 0))
      (λ e. let z = eqb-true _ _ e in
      ap (λ (s : Started). s.checked) (by_list list l z) ∙ sym (check_by_list list l z))
      (λ e. let z = eqb-false _ _ e in
      ap (λ (s : Started). s.checked) (by_refused list l z) ∙ sym (check_by_refused list l z))

  accepted_list : (l : Lent) → (started_listed list l).checked.answer ≡ done → list.answer.number ≡ 0
  accepted_list l h =
      cases (either (eqb list.answer.number 0)) (λ e. eqb-true _ _ e)
      (λ e. ap (λ (a : Answer). a.number) (rw (by_refused list l (eqb-false _ _ e)) at h))

  pub printed_listed : PrintedListed list
  printed_listed l tags h budget b =
      let z = accepted_list l h in
      let e = by_list list l z in
      rw (e, z) (printed_in list.listed l tags (rw e at h) budget b)

  pub as_many_listed : AsManyListed list
  as_many_listed l tags h budget =
      let z = accepted_list l h in
      let e = by_list list l z in
      rw (e, z) (as_many_in list.listed l tags (rw e at h) budget)

  pub no_fewer_listed : NoFewerListed list
  no_fewer_listed l h u r k =
      let e = by_list list l (accepted_list l h) in
      rw e (no_fewer_in list.listed l (rw e at h) u r k)

  pub no_step_listed : NoStepListed list
  no_step_listed l tags h s t ns swapped st =
      cases (either (eqb list.answer.number 0))
      (λ q. let z = eqb-true _ _ q in
      let e = by_list list l z in
      rw (e, z) (no_step list.listed (view_in list.listed) l tags (rw e at h) s t ns swapped st))
      (λ q. rw (by_refused list l (eqb-false _ _ q), q) (refl, refl, refl))
