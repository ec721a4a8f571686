-- The steps of a reading under a list of registers: the lines from some line on. Assumes nothing.
use Rattle.std.specs.Prelude.{ℕ, Bool, Option, Some, None, List, [], ◌++◌, length}
use Rattle.event.specs.Answer.{first}
use Rattle.event.specs.Limit.{places}
use Rattle.event.specs.declared.Event.{Event}
use Rattle.memory.specs.declared.Memory.{Memory}
use Rattle.frame.specs.Reading.{settle, tried}
use Rattle.uses.specs.Cover.{Start, so_far}
use Rattle.trace.specs.Fault.{cover_fault, event_fault_in}
use Rattle.trace.specs.Reading.{SoFar, trace_layout, events_in, inits_in, start_from, refused, read_as}
use Rattle.record.specs.declared.form.Form.{Form}
use Rattle.record.specs.declared.Record.{Record}
use Rattle.record.specs.declared.Record.TheVariants.{Init, AnEvent}
use Rattle.trace.specs.Reading.{TraceRead}

-- The starting value of a line that has one.
abbrev pub init_on : Option Record → Option Start
init_on None = None
init_on (Some (Init p v)) = Some (p, v)
init_on (Some (AnEvent e)) = None

-- What lines none of which is refused come to, by their starting values, the memory that these make and their events: 20, 21, then 5, 6.
unfoldable pub judged_as : List Bool → Form → ℕ → List Start → Memory → List Event → TraceRead
judged_as regs f side is m es = settle refused (first (cover_fault f side is es) (event_fault_in regs side 1 m [] es)) (read_as (length es) m)

-- Where an `init` line may have the location `low` or above, before any event; and where none may come after n events.
abbrev pub opened : ℕ → SoFar
opened low = record { low = low; events = 0 }

abbrev pub closed : ℕ → SoFar
closed n = record { low = places; events = n }

-- Lines after starting values that made the memory m, for which `has` says which locations have a line.
abbrev pub with_inits : List Bool → Form → ℕ → List Bool → Memory → List (List ℕ) → TraceRead
with_inits regs f side has m ls = judged_as regs f side (so_far has m.cells ++ inits_in f ls) (start_from f m ls) (events_in f ls)

-- Such lines from line k on, before any event.
abbrev pub survey_inits : List Bool → Form → ℕ → ℕ → ℕ → List Bool → Memory → List (List ℕ) → TraceRead
survey_inits regs f side k low has m ls = tried (trace_layout f) refused side k (opened low) (with_inits regs f side has m) ls

-- Lines after them, all of which are to be events.
abbrev pub with_events : List Bool → Form → ℕ → List Bool → Memory → List (List ℕ) → TraceRead
with_events regs f side has m ls = judged_as regs f side (so_far has m.cells) m (events_in f ls)

abbrev pub survey_events : List Bool → Form → ℕ → ℕ → List Bool → Memory → List (List ℕ) → TraceRead
survey_events regs f side k has m ls = tried (trace_layout f) refused side k (closed 0) (with_events regs f side has m) ls
