-- Demand 3, in checkable words, and document 02, C-16: what is left of two traces and a matching once answers 1 to 9 are not given, and what accepting
-- them has to mean, under a list of registers. A call without a list is the instance that lists none. Assumes nothing.
use Rattle.std.specs.Prelude.{◌≡◌, ◌↔◌, ◌⊎◌, ◌≢◌, Bool, true, false, ◌&&◌, List, [], ◌∷◌, map, ℕ, T, length, get_or}
use Rattle.memory.specs.Memory.{stepped}
use Rattle.memory.specs.Listed.{listed, none_listed, stepped_in}
use Rattle.event.specs.declared.Event.{Event}
use Rattle.event.specs.Answer.{done}
use Rattle.memory.specs.declared.Memory.{Memory}
use Rattle.event.specs.Limit.{places}
use Rattle.rules.specs.View.{View, view, view_in}
use Rattle.rules.specs.Moves.{Run, By}
use Rattle.rules.specs.Run.{Ends, Realises, Traced, changes, event_of, new, old, tag_of}
use Rattle.rules.specs.Fault.{nth}
use Rattle.rules.specs.Verdict.{start_answer_in, count_answer, entry_answer, verdict, verdict_in}

-- Every event of a trace is lawful and, but for registers, has the latest value, from a memory on.
abbrev pub right_in : List Bool → Memory → List Event → Bool
right_in regs m [] = true
right_in regs m (e ∷ s) = (stepped_in regs m e).right && right_in regs (stepped m e).memory s

-- The same without a list, here and below.
abbrev pub right : Memory → List Event → Bool
right = right_in none_listed

-- The memory after a trace.
abbrev pub final : Memory → List Event → Memory
final m [] = m
final m (e ∷ s) = final (stepped m e).memory s

-- Two traces from memories of 256 cells and a matching to which none of the answers 1 to 9 is given. (Answer 5, a location used by plain and
-- atomic events, need not be ruled out: nearness ends at every atomic event anyhow.)
pub record PassedIn (regs : List Bool) (m n : Memory) (s t : List Event) (ns : List ℕ) : Type 0 where
  pub source_cells : length m.cells ≡ places
  pub target_cells : length n.cells ≡ places
  pub source : T (right_in regs m s)
  pub target : T (right_in regs n t)
  pub start : start_answer_in regs 0 m.cells n.cells ≡ done
  pub count : count_answer s ns ≡ done
  pub entries : entry_answer (length t) 1 [] ns ≡ done

abbrev pub Passed : Memory → Memory → List Event → List Event → List ℕ → Type 0
Passed = PassedIn none_listed

-- Accepted exactly when a run realises the matching; the starting values of listed locations are set apart, since 7 skips them.
abbrev pub Demand3In : Type 0
Demand3In =
    (regs : List Bool) (m n : Memory) (s t : List Event) (ns : List ℕ) → PassedIn regs m n s t ns
    → (verdict_in regs m.cells n.cells s t ns ≡ done) ↔ Realises (view_in regs) s t ns

abbrev pub Demand3 : Type 0
Demand3 =
    (m n : Memory) (s t : List Event) (ns : List ℕ) → Passed m n s t ns
    → (verdict view m.cells n.cells s t ns ≡ done) ↔ Realises view s t ns

-- Of every run, whatever it realises: every trace that it comes by has the latest values at the locations that are not listed, if the first has, and
-- leaves every location, listed or not, with the value that the first leaves there.
abbrev pub ValuesBy : List Bool → (Event → View) → Type 0
ValuesBy regs look =
    (m : Memory) (s u : List Traced) (r : Run (changes look) s u) → length m.cells ≡ places → T (right_in regs m (map event_of s))
    → (x : List Traced) → By (changes look) x r.1 ⊎ By (changes look) x r.2
    → T (right_in regs m (map event_of x)) × (final m (map event_of x) ≡ final m (map event_of s))

abbrev pub ValuesIn : Type 0
ValuesIn = (regs : List Bool) → ValuesBy regs (view_in regs)

abbrev pub Values : Type 0
Values = ValuesBy none_listed view

-- What an accepted matching leaves: the target ends with the value that the source ends with, at every location that is not listed.
abbrev pub OutcomeIn : Type 0
OutcomeIn =
    (regs : List Bool) (m n : Memory) (s t : List Event) (ns : List ℕ) → PassedIn regs m n s t ns
    → verdict_in regs m.cells n.cells s t ns ≡ done
    → (l : ℕ) → listed regs l ≡ false → get_or (final n t).cells l 0 ≡ get_or (final m s).cells l 0

-- "keeps what it keeps, each at its target number, and removes what it calls gone": in the trace that a run ends with, the event of a source number
-- that is kept stands at the place that its entry names, and one that is gone stands nowhere.
abbrev pub KeptAndGone : Type 0
KeptAndGone =
    (regs : List Bool) (m n : Memory) (s t : List Event) (ns : List ℕ) → PassedIn regs m n s t ns → (u : List Traced) → Ends ns 1 u t
    → ((i : ℕ) → nth 0 ns i ≢ 0 → nth (new 0) (map tag_of u) (nth 0 ns i) ≡ old i)
    × ((i : ℕ) → nth 0 ns i ≡ 0 → (k : ℕ) → nth (new 0) (map tag_of u) k ≢ old i)
