-- Document 02, C-11 and C-16: a trace text moved to the other form, under a list of registers. Assumes nothing.
use Rattle.std.specs.Prelude.{ℕ, Bool, cond, List, ltb, length}
use Rattle.event.specs.Answer.{answer, done, first}
use Rattle.memory.specs.Listed.{none_listed}
use Rattle.event.specs.declared.Answer.{Answer}
use Rattle.text.specs.Line.{split}
use Rattle.frame.specs.Reading.{headed, settle}
use Rattle.record.specs.Form.{header, limit_of}
use Rattle.record.specs.declared.form.Form.{Form}
use Rattle.trace.specs.Reading.{form_of, start_of, events_of, fault_in, refused, read_as}
use Rattle.trace.specs.Writing.{trace_text, lost, answered, out_with}
use Rattle.trace.specs.Reading.{TraceRead}

-- The trace of a text, in a form. A trace of form 1 has code line 0 throughout.
unfoldable pub moved_text : Form → List ℕ → List ℕ
moved_text to t = trace_text to (start_of t) (events_of t)

-- 1; and 2 at line 1 for a text that is of the form already.
unfoldable pub move_head : Form → List ℕ → Answer
move_head to t = cond (ltb (limit_of (form_of t)) (length t)) (answer 1 1 0) (cond (headed (header to) (split t)) (answer 2 1 1) done)

-- The refusals of a move but 17: those, the reading's, and 19.
unfoldable pub move_fault_in : List Bool → Form → List ℕ → Answer
move_fault_in regs to t = first (move_head to t) (first (fault_in regs 1 t) (lost to 1 1 (events_of t)))

-- What is found of the text: the first of them, else its number of events and its starting memory.
unfoldable pub move_survey_in : List Bool → Form → List ℕ → TraceRead
move_survey_in regs to t = settle refused (move_fault_in regs to t) (read_as (length (events_of t)) (start_of t))

-- The move, and what the lent bytes hold afterwards.
unfoldable pub move_in : List Bool → Form → List ℕ → List ℕ → Answer
move_in regs to t out = answered (move_fault_in regs to t) (moved_text to t) out

unfoldable pub moved_out_in : List Bool → Form → List ℕ → List ℕ → List ℕ
moved_out_in regs to t out = out_with (move_fault_in regs to t) (moved_text to t) out

-- The same without a list, which lists none.
abbrev pub move_of : Form → List ℕ → List ℕ → Answer
move_of = move_in none_listed

abbrev pub moved_out : Form → List ℕ → List ℕ → List ℕ
moved_out = moved_out_in none_listed
