-- Document 01, "Numbers that come back", and document 02, C-15 and C-16: answers 20 and 21, and answers 5 and 6, event by event, under a list of registers.
-- Assumes nothing.
use Rattle.std.specs.Prelude.{ℕ, ◌+◌, Bool, cond, List, [], ◌∷◌}
use Rattle.event.specs.Answer.{answer, done, first}
use Rattle.memory.specs.Listed.{stepped_in}
use Rattle.memory.specs.Memory.{stepped}
use Rattle.event.specs.declared.Answer.{Answer}
use Rattle.event.specs.declared.Event.{Event}
use Rattle.memory.specs.declared.Memory.{Memory}
use Rattle.record.specs.declared.form.Form.{Form}
use Rattle.uses.specs.Bad.{first_bad}
use Rattle.uses.specs.Cover.{Start, is_idle, lacks_line, lined, touched}
use Rattle.uses.specs.Use.{clashes_in}

-- 20 over all events, then 21 over all starting values, the first of which is on line 2.
unfoldable pub cover_fault : Form → ℕ → List Start → List Event → Answer
cover_fault f side is es = first (first_bad (lacks_line f (lined is)) 20 side 1 es) (first_bad (is_idle f (touched es)) 21 side 2 is)

-- 5 or 6 of the event of number k, by whether it clashes and whether its value is the latest.
abbrev pub fault_at : ℕ → ℕ → Bool → Bool → Answer
fault_at side k clash right = cond clash (answer 5 side k) (cond right done (answer 6 side k))

-- The first fault 5 or 6 of the events es, the first of which has the number k: behind the events `before`, nearest first, with
-- the memory as they left it.
unfoldable pub event_fault_in : List Bool → ℕ → ℕ → Memory → List Event → List Event → Answer
event_fault_in regs side k m before [] = done
event_fault_in regs side k m before (e ∷ es) =
    first (fault_at side k (clashes_in regs before e) (stepped_in regs m e).right) (event_fault_in regs side (k + 1) (stepped m e).memory (e ∷ before) es)
