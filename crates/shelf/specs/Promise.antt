-- Document 02, C-19: what is promised of a shortened trace, under a list of registers. A call without a list is the instance that lists none. Assumes
-- nothing.
use Rattle.std.specs.Prelude.{◌≡◌, Bool, List, ℕ, ◌≤◌, T, length}
use Rattle.event.specs.Answer.{done}
use Rattle.event.specs.Limit.{places}
use Rattle.event.specs.declared.Event.{Event}
use Rattle.memory.specs.Listed.{none_listed}
use Rattle.memory.specs.declared.Memory.{Memory}
use Rattle.rules.specs.View.{View, view, view_in}
use Rattle.rules.specs.Moves.{Run}
use Rattle.rules.specs.Run.{Traced, changes, number, Realises}
use Rattle.rules.specs.Verdict.{verdict, verdict_in}
use Rattle.rules.specs.Demand.{right, right_in, final}
use Rattle.shelf.specs.Short.{short, short_in, entries, names_in}

-- "the matching is accepted": so is the verdict; and the shortened trace has the latest values and leaves the memory that the long one leaves.
abbrev pub AcceptedIn : Type 0
AcceptedIn =
    (regs : List Bool) (m : Memory) (s : List Event) → length m.cells ≡ places → T (right_in regs m s)
    → T (right_in regs m (short_in regs s)) × (final m (short_in regs s) ≡ final m s)
    × (verdict_in regs m.cells m.cells s (short_in regs s) (names_in regs s) ≡ done)

-- "no target reachable by allowed runs has fewer events": no trace that a run from the long one ends at, and no target that a matching of it realises.
abbrev pub LeastBy : List Bool → (Event → View) → Type 0
LeastBy regs look =
    (m : Memory) (s : List Event) → length m.cells ≡ places → T (right_in regs m s)
    → ((u : List Traced) → Run (changes look) (number 1 s) u → length (short look s) ≤ length u)
    × ((t : List Event) (ns : List ℕ) → Realises look s t ns → length (short look s) ≤ length t)

abbrev pub LeastIn : Type 0
LeastIn = (regs : List Bool) → LeastBy regs (view_in regs)

-- "shortening twice changes nothing".
abbrev pub TwiceIn : Type 0
TwiceIn = (regs : List Bool) (s : List Event) → short_in regs (short_in regs s) ≡ short_in regs s

-- The same without a list.
abbrev pub Accepted : Type 0
Accepted =
    (m : Memory) (s : List Event) → length m.cells ≡ places → T (right m s)
    → T (right m (short view s)) × (final m (short view s) ≡ final m s)
    × (verdict view m.cells m.cells s (short view s) (entries view s) ≡ done)

abbrev pub Least : Type 0
Least = LeastBy none_listed view

abbrev pub Twice : Type 0
Twice = (s : List Event) → short view (short view s) ≡ short view s
