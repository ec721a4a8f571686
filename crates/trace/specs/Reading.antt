-- Document 01, "Numbers that come back" and "Lent room", and document 02, C-11, C-15 and C-16: the reading of a trace text, under a list of registers. Its form
-- comes from the text. A reading without a list is the one that lists none.
-- Assumes nothing.
use Rattle.std.specs.Prelude.{ℕ, ◌+◌, ◌*◌, ◌/◌, Bool, cond, List, [], ◌∷◌, ◌++◌, eqb, leb, ltb, length, drop, Option, Some, None, Result}
use Rattle.event.specs.Answer.{done, first}
use Rattle.event.specs.Told.{Tells}
use Rattle.memory.specs.Listed.{none_listed}
use Rattle.memory.specs.Memory.{empty}
use Rattle.event.specs.Limit.{places, event_limit}
use Rattle.event.specs.Room.{event_words, flat}
use Rattle.event.specs.declared.Answer.{Answer}
use Rattle.event.specs.declared.Event.{Event}
use Rattle.memory.specs.declared.Memory.{Memory}
use Rattle.text.specs.Line.{split, body, said_in}
use Rattle.frame.specs.Reading.{Layout, headed, text_fault, settle, fitted}
use Rattle.record.specs.Form.{header, limit_of}
use Rattle.record.specs.Record.{record_of}
use Rattle.uses.specs.Cover.{Start, filled}
use Rattle.trace.specs.Fault.{cover_fault}
use Rattle.trace.specs.Fault.{event_fault_in}
use Rattle.record.specs.declared.form.Form.{Form}
use Rattle.record.specs.declared.form.Form.TheVariants.{One, Two}
use Rattle.record.specs.declared.Record.{Record}
use Rattle.record.specs.declared.Record.TheVariants.{Init, AnEvent}
use Rattle.trace.specs.declared.reading.Held.{Held}

-- The form of a text: form 2 exactly where line 1, with its LF, is that of form 2.
unfoldable pub form_of : List ℕ → Form
form_of t = cond (headed (header Two) (split t)) Two One

-- What is known of the lines so far: the lowest location that an `init` line may have, one that none has once an event has come; and the
-- number of events.
pub record SoFar : Type 0 where
  pub low : ℕ
  pub events : ℕ

-- The refusal of a line, 2, 4 or 3; 0 for none.
abbrev pub line_fault : SoFar → Option Record → ℕ
line_fault s None = 2
line_fault s (Some (Init p v)) = cond (ltb p s.low) 4 0
line_fault s (Some (AnEvent e)) = cond (leb event_limit s.events) 3 0

-- What is known after it.
abbrev pub after_line : SoFar → Option Record → SoFar
after_line s None = s
after_line s (Some (Init p v)) = record { low = p + 1; events = s.events }
after_line s (Some (AnEvent e)) = record { low = places; events = s.events + 1 }

-- The layout of a trace, by its form.
abbrev pub trace_layout : Form → Layout SoFar
trace_layout f = record {
  limit = limit_of f;
  header = header f;
  start = record { low = 0; events = 0 };
  fault = λ s l. line_fault s (record_of f l);
  next = λ s l. after_line s (record_of f l);
}

-- The events of a text: those of the lines after line 1.
abbrev pub events_on : Option Record → List Event
events_on None = []
events_on (Some (Init p v)) = []
events_on (Some (AnEvent e)) = e ∷ []

abbrev pub events_in : Form → List (List ℕ) → List Event
events_in f ls = said_in (λ l. events_on (record_of f l)) ls

unfoldable pub events_of : List ℕ → List Event
events_of t = events_in (form_of t) (body (split t))

-- Its starting values, likewise.
abbrev pub inits_on : Option Record → List Start
inits_on None = []
inits_on (Some (Init p v)) = (p, v) ∷ []
inits_on (Some (AnEvent e)) = []

abbrev pub inits_in : Form → List (List ℕ) → List Start
inits_in f ls = said_in (λ l. inits_on (record_of f l)) ls

unfoldable pub inits_of : List ℕ → List Start
inits_of t = inits_in (form_of t) (body (split t))

-- The cells after the lines' starting values.
unfoldable pub start_in : Form → List ℕ → List (List ℕ) → List ℕ
start_in f cells ls = filled cells (inits_in f ls)

abbrev pub start_from : Form → Memory → List (List ℕ) → Memory
start_from f m ls = record { cells = start_in f m.cells ls }

-- A text's starting memory.
abbrev pub start_of : List ℕ → Memory
start_of t = start_from (form_of t) empty (body (split t))

-- The first refusal of a text: 1, then line by line 2, 4, 3, then 20, 21, then event by event 5, 6.
unfoldable pub fault_in : List Bool → ℕ → List ℕ → Answer
fault_in regs side t =
    first (text_fault (trace_layout (form_of t)) side t)
    (first (cover_fault (form_of t) side (inits_of t) (events_of t)) (event_fault_in regs side 1 (start_of t) [] (events_of t)))

-- What a reading says: its answer, the number of events and the starting memory, both 0 under a refusal.
pub record TraceRead : Type 0 where
  pub answer : Answer
  pub events : ℕ
  pub memory : Memory

-- What a refusal says, no event and an empty memory; and what a reading of n events does.
abbrev pub refused : Answer → TraceRead
refused a = record { answer = a; events = 0; memory = empty }

abbrev pub read_as : ℕ → Memory → TraceRead
read_as n m = record { answer = done; events = n; memory = m }

-- What is handed back is what a reading says: what is held, or the answer that refuses.
abbrev pub Reads : Result Held Answer → TraceRead → Type 0
Reads result read = Tells (λ h. read_as h.events h.memory) refused read result

-- Those answers of a text, with its number of events and its starting memory.
unfoldable pub survey_in : List Bool → ℕ → List ℕ → TraceRead
survey_in regs side t = settle refused (fault_in regs side t) (read_as (length (events_of t)) (start_of t))

abbrev pub survey_of : ℕ → List ℕ → TraceRead
survey_of = survey_in none_listed

-- 17, after the others: a room of so many words does not hold the events.
abbrev pub room_for : ℕ → ℕ → TraceRead → TraceRead
room_for side words r = fitted refused side r.events (words / event_words) r

-- A reading, by its text and the room lent.
unfoldable pub read_in : List Bool → ℕ → List ℕ → List ℕ → TraceRead
read_in regs side t room = room_for side (length room) (survey_in regs side t)

abbrev pub read_of : ℕ → List ℕ → List ℕ → TraceRead
read_of = read_in none_listed

-- A room with events at its front.
abbrev pub front : List Event → List ℕ → List ℕ
front es room = flat es ++ drop (length es * event_words) room

-- The room afterwards: unchanged by a refusal, else with the events at its front.
unfoldable pub room_after_in : List Bool → ℕ → List ℕ → List ℕ → List ℕ
room_after_in regs side t room = cond (eqb (read_in regs side t room).answer.number 0) (front (events_of t) room) room

abbrev pub room_after : ℕ → List ℕ → List ℕ → List ℕ
room_after = room_after_in none_listed
