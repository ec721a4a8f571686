-- Request C-11: "Code lines never affect a verdict". Assumes nothing.
use Rattle.std.specs.Prelude.{◌≡◌, Bool, List, map, ℕ}
use Rattle.event.specs.declared.Event.{Event}
use Rattle.rules.specs.Verdict.{verdict_in}

-- An event with another code line.
abbrev pub recode : (Event → ℕ) → Event → Event
recode c e = record { kind = e.kind; place = e.place; order = e.order; first = e.first; second = e.second; code = c e }

-- Whatever code lines the events of both traces get, the verdict is the same, under any list.
abbrev pub Recoded : Type 0
Recoded =
    (regs : List Bool) (c d : Event → ℕ) (m n : List ℕ) (s t : List Event) (ns : List ℕ)
    → verdict_in regs m n (map (recode c) s) (map (recode d) t) ns ≡ verdict_in regs m n s t ns
