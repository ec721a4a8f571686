-- A replay step by step: what is left of it after a step that was applied, and where it stops. Assumes nothing.
use mathlib.Core.Path.{◌≡◌, refl, sym, ◌∙◌, ap, subst}
use mathlib.Core.Bool.{Bool, true, false, cond, false≢true}
use mathlib.Core.Option.{Option, none, some, none-ne-some}
use mathlib.Core.List.{List, [], ◌∷◌}
use Prim.Native.Nat.{ℕ, zero, suc, ◌+◌, ◌-◌, ◌≤◌, ◌<◌}
use native.Mathlib.Omega.{arith}
use lib.ListN.{length, take}
use Rattle.event.specs.declared.Event.{Event}
use Rattle.rules.specs.View.{View}
use Rattle.rules.specs.Run.{Traced}
use Rattle.changes.specs.Apply.{Applies, front, is_open, outcome_by, stands}
use Rattle.changes.specs.Change.{applied}
use Rattle.changes.specs.Tags.{codes}
use Rattle.changes.specs.declared.Applied.{Applied}
use Rattle.changes.specs.declared.Run.{Run}
use Rattle.changes.specs.declared.Step.{Step}
use Rattle.changes.specs.declared.Step.TheVariants.{Remove, Swap, Insert, Done, Stuck}
use Rattle.changes.proofs.Changes.{fits}
use Rattle.changes.proofs.Traces.{length_trace}
use Rattle.steps.specs.Play.{Played, Plays, is_done, next_by, next_from_by, one_more, onward, play_by, stopped, swap_place}
use Rattle.course.specs.Step.{next_step}
use Rattle.steps.specs.declared.Replayed.{Replayed}
use Rattle.steps.proofs.Kept.{coded_applied, few_applied, open_running, running, stands_front}
use Rattle.steps.proofs.Resume.{resumed}
use Rattle.event.specs.Limit.{event_limit}

-- ---- what was applied, and what was not

went_on : (r : Run) (A : List ℕ) (o : Option (List Traced)) (a : Applied) (B : List ℕ) → Applies r A o a B → a.allowed ≡ true
    → (u : List Traced) × (o ≡ some u) × (a.run ≡ running u) × (B ≡ front (codes u) A)
went_on r A none a B p h = absurd (false≢true (ap (λ (x : Applied). x.allowed) (sym p.answer) ∙ h))
went_on r A (some u) a B p h = (u, refl, ap (λ (x : Applied). x.run) p.answer, p.left)

went_off : (r : Run) (A : List ℕ) (o : Option (List Traced)) (a : Applied) (B : List ℕ) → Applies r A o a B → a.allowed ≡ false → (o ≡ none) × (B ≡ A)
went_off r A none a B p h = (refl, p.left)
went_off r A (some u) a B p h = absurd (false≢true (sym h ∙ ap (λ (x : Applied). x.allowed) p.answer))

take_few : (n : ℕ) (A : List ℕ) → length (take n A) ≤ n
take_few zero A = omega arith
take_few (suc n) [] = omega arith
take_few (suc n) (a ∷ A) = let i = take_few n A in omega arith

module _ (look : Event → View) (s t : List Event) (ns : List ℕ) where
  -- a run that has begun
  pub next_open : (k : ℕ) (r : Run) (A : List ℕ) (u : List Traced) → is_open r ≡ true → stands s t r A ≡ u
      → next_by look s t ns k r A ≡ next_from_by look s t ns k u
  next_open k r A u h e = rw (h, e)

  -- a step that was applied: the run has begun, and what stands is the trace after it
  module _ (r : Run) (A : List ℕ) (st : Step) (u : List Traced) (h : outcome_by look s t r A st ≡ some u) where
    pub opened : (is_open r ≡ true) × (applied look t st (stands s t r A) ≡ some u)
    opened = go (is_open r) refl h
      where
        go : (c : Bool) → is_open r ≡ c → cond c (applied look t st (stands s t r A)) none ≡ some u
            → (is_open r ≡ true) × (applied look t st (stands s t r A) ≡ some u)
        go true e h = (e, h)
        go false e h = absurd (none-ne-some u h)

    pub stands_after : stands s t (running u) (front (codes u) A) ≡ u
    stands_after = stands_front s t u A (coded_applied s t look st (take r.standing A) u opened.1)

    pub few_after : length u ≤ event_limit
    few_after =
        let f = fits r opened.0 in
        let k = take_few r.standing A in
        let m = length_trace s t (take r.standing A) in
        few_applied look t st (stands s t r A) u opened.1 (omega arith)

    pub open_after : is_open (running u) ≡ true
    open_after = open_running u few_after

  -- the next step asked for from the last swap's place on
  asked_on : (r : Run) (A : List ℕ) (u : List Traced) → outcome_by look s t r A (next_by look s t ns 0 r A) ≡ some u
      → next_by look s t ns (swap_place (next_by look s t ns 0 r A)) (running u) (front (codes u) A) ≡ next_by look s t ns 0 (running u) (front (codes u) A)
  asked_on r A u h =
      let st = next_by look s t ns 0 r A in
      let o = opened r A st u h in
      let e : next_step look ns (length t) (stands s t r A) ≡ st = sym (next_open 0 r A (stands s t r A) o.0 refl) in
      next_open (swap_place st) (running u) (front (codes u) A) u (open_after r A st u h) (stands_after r A st u h)
      ∙ (resumed look s t ns st (stands s t r A) u e o.1
      ∙ sym (next_open 0 (running u) (front (codes u) A) u (open_after r A st u h) (stands_after r A st u h)))

  -- ---- what is left of a replay

  pub play_on : (b : ℕ) (r : Run) (A : List ℕ) (u : List Traced) → outcome_by look s t r A (next_by look s t ns 0 r A) ≡ some u
      → play_by look s t ns (suc b) r A ≡ one_more (play_by look s t ns b (running u) (front (codes u) A))
  play_on b r A u h = ap (λ o. onward r A (next_by look s t ns 0 r A) o (play_by look s t ns b)) h

  pub play_off : (b : ℕ) (r : Run) (A : List ℕ) → outcome_by look s t r A (next_by look s t ns 0 r A) ≡ none
      → play_by look s t ns b r A ≡ stopped r A (next_by look s t ns 0 r A)
  play_off zero r A h = refl
  play_off (suc b) r A h = ap (λ o. onward r A (next_by look s t ns 0 r A) o (play_by look s t ns b)) h

-- so many steps more
abbrev later : ℕ → Played → Played
later k p = record { run = p.run; tags = p.tags; steps = k + p.steps; ended = p.ended }

-- another step than the end
pub not_done : (st : Step) → (st ≡ Done → ⊥) → is_done st ≡ false
not_done (Remove i k) h = refl
not_done (Swap i) h = refl
not_done (Insert i) h = refl
not_done Done h = absurd (h refl)
not_done Stuck h = refl

-- it stops
stops_here : (p : Played) (r : Run) (A : List ℕ) (st : Step) (k : ℕ) → p ≡ later k (stopped r A st) → (result : Replayed)
    → result ≡ record { run = r; steps = k; ended = is_done st } → Plays p result A
stops_here p r A st k e result q = let z : k ≡ k + 0 = omega arith in rw e (record { answer = q ∙ rw (← z); left = refl })

-- a replay of p is under way
pub record Going (look : Event → View) (s t : List Event) (ns : List ℕ) (budget : ℕ) (p : Played) (A : List ℕ) (r : Run) (swapped steps : ℕ) : Type 0 where
  pub bound : steps ≤ budget
  pub asked : next_by look s t ns swapped r A ≡ next_by look s t ns 0 r A
  pub same : p ≡ later steps (play_by look s t ns (budget - steps) r A)

going_as : (look : Event → View) (s t : List Event) (ns : List ℕ) (budget : ℕ) (p : Played) (B A : List ℕ) (q r : Run) (x y n k : ℕ) → B ≡ A
    → q ≡ r → x ≡ y → n ≡ k
    → Going look s t ns budget p A r y k → Going look s t ns budget p B q x n
going_as look s t ns budget p B A q r x y n k e f g h w = rw (e, f, g, h) w

module _ (look : Event → View) (s t : List Event) (ns : List ℕ) (budget : ℕ) (p : Played) (A : List ℕ) (r : Run) (swapped steps : ℕ)
    (g : Going look s t ns budget p A r swapped steps) (st : Step) (e : st ≡ next_by look s t ns swapped r A) where
  -- it is the next step
  is_next : st ≡ next_by look s t ns 0 r A
  is_next = e ∙ g.asked

  stepped : (u : List Traced) → outcome_by look s t r A st ≡ some u → steps < budget
      → Going look s t ns budget p (front (codes u) A) (running u) (swap_place st) (suc steps)
  stepped u h l =
      let o : outcome_by look s t r A (next_by look s t ns 0 r A) ≡ some u = ap (outcome_by look s t r A) (sym is_next) ∙ h in
      let c : budget - steps ≡ suc (budget - suc steps) = omega arith in
      let k : (i : ℕ) → steps + suc i ≡ suc steps + i = λ i. omega arith in
      record {
        bound = omega arith;
        asked = ap (λ x. next_by look s t ns (swap_place x) (running u) (front (codes u) A)) is_next ∙ asked_on look s t ns r A u o;
        same = g.same ∙ (ap (λ b. later steps (play_by look s t ns b r A)) c
            ∙ (ap (later steps) (play_on look s t ns (budget - suc steps) r A u o)
            ∙ rw (k (play_by look s t ns (budget - suc steps) (running u) (front (codes u) A)).steps)));
      }

  pub goes_on : (a : Applied) (B : List ℕ) → Applies r A (outcome_by look s t r A st) a B → steps < budget → a.allowed ≡ true → (place next : ℕ)
      → place ≡ swap_place st → next ≡ suc steps → Going look s t ns budget p B a.run place next
  goes_on a B w l h place next q n =
      let d = went_on r A (outcome_by look s t r A st) a B w h in
      going_as look s t ns budget p B (front (codes d.0) A) a.run (running d.0) place (swap_place st) next (suc steps) d.3 d.2 q n
      (stepped d.0 d.1 l)

  pub goes_off : (a : Applied) (B : List ℕ) → Applies r A (outcome_by look s t r A st) a B → (result : Replayed) → a.allowed ≡ false
      → result ≡ record { run = r; steps = steps; ended = is_done st } → Plays p result B
  goes_off a B w result h q =
      let d = went_off r A (outcome_by look s t r A st) a B w h in
      let o : outcome_by look s t r A (next_by look s t ns 0 r A) ≡ none = ap (outcome_by look s t r A) (sym is_next) ∙ d.0 in
      let e : p ≡ later steps (stopped r A st) =
      g.same ∙ (ap (later steps) (play_off look s t ns (budget - steps) r A o) ∙ ap (λ x. later steps (stopped r A x)) (sym is_next)) in
      subst (λ z. Plays p result z) (sym d.1) (stops_here p r A st steps e result q)
