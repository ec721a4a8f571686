-- Requests C-12, C-18 and C-16, what is promised of the steps over events, under a list of registers and without one: "that the replay is allowed at every
-- step, never stalls and ends at the target, marks apart", and "that C-12's run has that many steps and that no allowed run realising the same matching has
-- fewer". Assumes nothing.
use Rattle.std.specs.Prelude.{◌≡◌, Bool, List, [], ℕ, zero, suc, ◌+◌, ◌≤◌, T, length}
use Rattle.std.proofs.Math.Option.{some}
use Rattle.laws.specs.Each.{Each}
use Rattle.event.specs.Answer.{done}
use Rattle.kinds.specs.Kind.{lawful}
use Rattle.event.specs.declared.Event.{Event}
use Rattle.memory.specs.declared.Memory.{Memory}
use Rattle.rules.specs.View.{View, view_in}
use Rattle.rules.specs.Moves.{Move, Run}
use Rattle.rules.specs.Run.{Traced, number, changes, Ends}
use Rattle.rules.specs.Verdict.{verdict_in}
use Rattle.rules.specs.Demand.{PassedIn}
use Rattle.changes.specs.Change.{applied, phase}
use Rattle.changes.specs.declared.Step.{Step}
use Rattle.course.specs.Cost.{cost, steps_of}
use Rattle.course.specs.Step.{Replays}
use Rattle.event.specs.Limit.{event_limit}

-- The pairs among n events.
abbrev pub pairs : ℕ → ℕ
pairs zero = 0
pairs (suc n) = n + pairs n

-- A bound on the steps: every source event removed, every pair of them swapped, every target event inserted.
abbrev pub bound : List Event → List Event → ℕ
bound s t = length s + pairs (length s) + length t

-- An accepted matching is replayed from the source: each next step is allowed on the trace as it stands, until there is none; the trace is then
-- the target, marks and code lines apart, every kept event at its number. The steps are within the bound.
abbrev pub Printed : Type 0
Printed =
    (regs : List Bool) (m n : Memory) (s t : List Event) (ns : List ℕ) → PassedIn regs m n s t ns → length t ≤ event_limit
    → verdict_in regs m.cells n.cells s t ns ≡ done
    → (k : ℕ) × (u : List Traced) × Replays (view_in regs) ns t k (number 1 s) u × Ends ns 1 u t × (k ≤ bound s t)

-- It has as many steps as the matching costs.
abbrev pub AsMany : Type 0
AsMany =
    (regs : List Bool) (m n : Memory) (s t : List Event) (ns : List ℕ) → PassedIn regs m n s t ns → length t ≤ event_limit
    → verdict_in regs m.cells n.cells s t ns ≡ done
    → (u : List Traced) × Replays (view_in regs) ns t (cost (length t) ns) (number 1 s) u × Ends ns 1 u t

-- No run that realises a matching has fewer, whatever the order of its steps.
abbrev pub NoFewer : Type 0
NoFewer =
    (regs : List Bool) (m n : Memory) (s t : List Event) (ns : List ℕ) → PassedIn regs m n s t ns
    → (u : List Traced) (r : Run (changes (view_in regs)) (number 1 s) u) → Ends ns 1 u t → cost (length t) ns ≤ steps_of r

-- A step that is applied is a move of its phase by the rules, whatever the matching says and whatever the rules see.
abbrev pub Allowed : Type 0
Allowed =
    (look : Event → View) (t : List Event) → Each (λ e. T (lawful e)) t → (st : Step) (u v : List Traced)
    → applied look t st u ≡ some v → Move (changes look) (phase st) [] u v

-- A replay is a run: removals, then swaps and insertions.
abbrev pub ReplaysRun : Type 0
ReplaysRun =
    (look : Event → View) (ns : List ℕ) (t : List Event) → Each (λ e. T (lawful e)) t → (k : ℕ) (u w : List Traced)
    → Replays look ns t k u w → Run (changes look) u w

-- There is one replay.
abbrev pub OneReplay : Type 0
OneReplay =
    (look : Event → View) (ns : List ℕ) (t : List Event) (k k' : ℕ) (u w w' : List Traced)
    → Replays look ns t k u w → Replays look ns t k' u w' → (k ≡ k') × (w ≡ w')
