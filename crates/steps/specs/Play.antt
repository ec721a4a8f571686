-- Requests C-12 and C-16: what each function hands back, and what it leaves in the lent array of 800 numbers, which holds what stands at its front. Assumes
-- nothing.
use Rattle.std.specs.Prelude.{◌≡◌, Bool, true, false, cond, List, ℕ, zero, suc, ◌-◌, length}
use Rattle.std.proofs.Math.Option.{Option, none, some}
use Rattle.event.specs.declared.Event.{Event}
use Rattle.rules.specs.View.{View, view}
use Rattle.rules.specs.Run.{Traced}
use Rattle.changes.specs.Apply.{front, is_open, outcome_by, stands}
use Rattle.changes.specs.Tags.{codes}
use Rattle.changes.specs.declared.Step.{Step}
use Rattle.changes.specs.declared.Step.TheVariants.{Remove, Swap, Insert, Done, Stuck}
use Rattle.changes.specs.declared.Run.{Run}
use Rattle.course.specs.Step.{next_step, order_step}
use Rattle.steps.specs.declared.Replayed.{Replayed}

-- The place of a swap; 0 of another step.
abbrev pub swap_place : Step → ℕ
swap_place (Remove i k) = 0
swap_place (Swap i) = i
swap_place (Insert i) = 0
swap_place Done = 0
swap_place Stuck = 0

-- There is no next step.
abbrev pub is_done : Step → Bool
is_done (Remove i k) = false
is_done (Swap i) = false
is_done (Insert i) = false
is_done Done = true
is_done Stuck = false

-- How a replay went: the run and the array at its end, the steps that were applied, and whether none was left.
pub record Played : Type 0 where
  pub run : Run
  pub tags : List ℕ
  pub steps : ℕ
  pub ended : Bool

abbrev pub stopped : Run → List ℕ → Step → Played
stopped r tags st = record { run = r; tags = tags; steps = 0; ended = is_done st }

abbrev pub one_more : Played → Played
one_more p = record { run = p.run; tags = p.tags; steps = suc p.steps; ended = p.ended }

abbrev pub onward : Run → List ℕ → Step → Option (List Traced) → (Run → List ℕ → Played) → Played
onward r tags st none go = stopped r tags st
onward r tags st (some u) go = one_more (go (record { begun = true; standing = length u }) (front (codes u) tags))

-- ---- the next step, of a matching ns

module _ (look : Event → View) (s t : List Event) (ns : List ℕ) where
  -- If the step before was the swap at a place, nothing is gone, and before that place nothing stands against the order: so it is looked for from
  -- there on. 0 says that it was no swap.
  abbrev pub next_from_by : ℕ → List Traced → Step
  next_from_by zero u = next_step look ns (length t) u
  next_from_by (suc place) u = order_step ns (length t) (place - 1) u

  abbrev pub next_by : ℕ → Run → List ℕ → Step
  next_by swapped r tags = cond (is_open r) (next_from_by swapped (stands s t r tags)) Done

  -- ---- a replay: the next step is asked for and applied, until there is none, or it is refused, or the budget is spent

  abbrev pub play_by : ℕ → Run → List ℕ → Played
  play_by zero r tags = stopped r tags (next_by 0 r tags)
  play_by (suc b) r tags = onward r tags (next_by 0 r tags) (outcome_by look s t r tags (next_by 0 r tags)) (play_by b)

-- The same without a list.
abbrev pub next_from : List Event → List Event → List ℕ → ℕ → List Traced → Step
next_from = next_from_by view

abbrev pub next_of : List Event → List Event → List ℕ → ℕ → Run → List ℕ → Step
next_of = next_by view

abbrev pub play : List Event → List Event → List ℕ → ℕ → Run → List ℕ → Played
play = play_by view

-- What a replay hands back and leaves.
pub record Plays (p : Played) (result : Replayed) (after : List ℕ) : Type 0 where
  pub answer : result ≡ record { run = p.run; steps = p.steps; ended = p.ended }
  pub left : after ≡ p.tags
