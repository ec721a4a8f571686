-- Document 01, "Lent room" and "The writer", and document 02, C-11, C-15 and C-16: a starting memory and a room written as a text of a form, under a list of
-- registers. Assumes nothing.
use Rattle.std.specs.Prelude.{ℕ, ◌+◌, ◌-◌, ◌/◌, Bool, cond, not, ◌&&◌, ◌||◌, List, [], ◌∷◌, ◌++◌, map, eqb, leb, ltb, length, drop}
use Rattle.event.specs.Answer.{answer, first}
use Rattle.kinds.specs.Kind.{lawful}
use Rattle.memory.specs.Listed.{none_listed}
use Rattle.event.specs.Room.{event_words, onward}
use Rattle.event.specs.declared.Answer.{Answer}
use Rattle.event.specs.declared.Event.{Event}
use Rattle.memory.specs.declared.Memory.{Memory}
use Rattle.record.specs.Form.{header, loses, silent}
use Rattle.record.specs.Layout.{init_line, event_line}
use Rattle.record.specs.declared.form.Form.{Form}
use Rattle.uses.specs.Cover.{Start, touched, starts}
use Rattle.trace.specs.Fault.{event_fault_in}
use Rattle.uses.specs.Bad.{first_bad}
use Rattle.event.specs.Limit.{event_limit}

-- How many events a part of a room has: one that is cut short at its end counts.
abbrev pub count_of : List ℕ → ℕ
count_of room = (length room + (event_words - 1)) / event_words

-- Its events; one that is cut short is no event, which is not lawful.
abbrev pub room_events : List ℕ → List Event
room_events room = onward room 0 (count_of room)

-- 18: the first event that is outside the layout.
abbrev pub layout_fault : ℕ → List Event → Answer
layout_fault k es = first_bad (λ e. not (lawful e)) 18 0 k es

-- 19: the first event whose code line a form would lose.
abbrev pub lost : Form → ℕ → ℕ → List Event → Answer
lost f side k es = first_bad (λ e. loses f e.code) 19 side k es

-- Each line with its LF.
unfoldable pub text_of : List (List ℕ) → List ℕ
text_of [] = []
text_of (l ∷ ls) = l ++ 10 ∷ text_of ls

-- Whether a starting value has a line, by which locations are touched: one that is not 0, and a zero that is not silent for a location that is.
abbrev pub has_line : Form → (ℕ → Bool) → ℕ → ℕ → Bool
has_line f has l v = not (eqb v 0) || (not (silent f 0) && has l)

-- The `init` lines of a memory's cells.
abbrev pub start_line : Start → List ℕ
start_line i = init_line i.0 i.1

abbrev pub init_lines : (ℕ → ℕ → Bool) → ℕ → List ℕ → List (List ℕ)
init_lines has l vs = map start_line (starts has l vs)

-- The text of a trace, by which locations are touched; they are those that its events touch.
unfoldable pub text_by : Form → (ℕ → Bool) → Memory → List Event → List ℕ
text_by f has m es = text_of (header f ∷ init_lines (has_line f has) 0 m.cells ++ map (event_line f) es)

abbrev pub trace_text : Form → Memory → List Event → List ℕ
trace_text f m es = text_by f (touched es) m es

-- Answers 3, 18, 5 and 6 of the writer.
unfoldable pub room_fault_in : List Bool → Memory → List ℕ → Answer
room_fault_in regs m room =
    cond (ltb event_limit (count_of room)) (answer 3 0 (event_limit + 1))
    (first (layout_fault 1 (room_events room)) (event_fault_in regs 0 1 m [] (room_events room)))

-- 17: the room for the bytes is too short; else 0 with the bytes written.
abbrev pub in_out : ℕ → List ℕ → Answer
in_out n out = cond (leb n (length out)) (answer 0 0 n) (answer 17 0 n)

-- The answer that a text comes with, by the first refusal of what was handed; and what the lent bytes hold afterwards: the text at the front. A refusal
-- changes nothing.
abbrev pub answered : Answer → List ℕ → List ℕ → Answer
answered fault t out = first fault (in_out (length t) out)

abbrev pub out_with : Answer → List ℕ → List ℕ → List ℕ
out_with fault t out = cond (eqb (answered fault t out).number 0) (t ++ drop (length t) out) out

-- The writer's refusals but 17: 3, 18, 5, 6 and 19.
unfoldable pub write_fault_in : List Bool → Form → Memory → List ℕ → Answer
write_fault_in regs f m room = first (room_fault_in regs m room) (lost f 0 1 (room_events room))

unfoldable pub write_in : List Bool → Form → Memory → List ℕ → List ℕ → Answer
write_in regs f m room out = answered (write_fault_in regs f m room) (trace_text f m (room_events room)) out

unfoldable pub out_after_in : List Bool → Form → Memory → List ℕ → List ℕ → List ℕ
out_after_in regs f m room out = out_with (write_fault_in regs f m room) (trace_text f m (room_events room)) out

-- The same without a list, which lists none.
abbrev pub write_of : Form → Memory → List ℕ → List ℕ → Answer
write_of = write_in none_listed

abbrev pub out_after : Form → Memory → List ℕ → List ℕ → List ℕ
out_after = out_after_in none_listed
