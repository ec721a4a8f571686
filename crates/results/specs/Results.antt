-- Document 01, "Numbers that come back", and requests C-12, C-18 and C-19: what a call hands back, laid out as numbers. Assumes nothing.
use Rattle.std.specs.Prelude.{ℕ, List, [], ◌∷◌, Result}
use Rattle.event.specs.Answer.{answer}
use Rattle.event.specs.Told.{told}
use Rattle.event.specs.declared.Answer.{Answer}
use Rattle.trace.specs.Reading.{TraceRead, refused, read_as}
use Rattle.trace.specs.declared.reading.Held.{Held}
use Rattle.matching.specs.Reading.{MatchingRead, refused as matching_refused, read_as as entries_as}
use Rattle.checker.specs.declared.Checked.{Checked}
use Rattle.beginning.specs.declared.Started.{Started}
use Rattle.shorten.specs.Text.{ShortSaid, whole, refused as short_refused}
use Rattle.shorten.specs.declared.Shortened.{Shortened}
use Rattle.numbers.specs.Numbers.{checked_numbers, count_numbers, started_numbers}
use Rattle.results.specs.declared.TraceRead.{TraceRead as TracePiece}
use Rattle.results.specs.declared.MatchingRead.{MatchingRead as MatchingPiece}
use Rattle.results.specs.declared.ShortSaid.{ShortSaid as ShortPiece}

-- What the results of a reading, of a writing and of a shortening tell.
abbrev pub trace_told : Result Held Answer → TraceRead
trace_told = told (λ h. read_as h.events h.memory) refused

abbrev pub matching_told : Result ℕ Answer → MatchingRead
matching_told = told entries_as matching_refused

abbrev pub written_told : Result ℕ Answer → Answer
written_told = told (answer 0 0) (λ a. a)

abbrev pub short_told : Result Shortened Answer → ShortSaid
short_told = told whole short_refused

-- The same in the pieces that the code hands on.
abbrev pub trace_of : Result Held Answer → TracePiece
trace_of read = record { answer = (trace_told read).answer; events = (trace_told read).events; memory = (trace_told read).memory }

abbrev pub matching_of : Result ℕ Answer → MatchingPiece
matching_of read = record { answer = (matching_told read).answer; entries = (matching_told read).entries }

abbrev pub short_of : Result Shortened Answer → ShortPiece
short_of made = record { answer = (short_told made).answer; bytes = (short_told made).bytes; matching_bytes = (short_told made).matching_bytes }

-- A trace read: its answer, then its events.
abbrev pub trace_numbers : TraceRead → List ℕ
trace_numbers r = count_numbers r.answer r.events

-- A matching read: its answer, then its entries.
abbrev pub matching_numbers : MatchingRead → List ℕ
matching_numbers r = count_numbers r.answer r.entries

-- A check: its answer, then the events of the source, those of the target, and the entries.
abbrev pub check_numbers : Checked → List ℕ
check_numbers c = checked_numbers c.answer c.source.events c.target.events c.entries

-- A beginning: the check's numbers, then how many steps there are.
abbrev pub start_numbers : Started → List ℕ
start_numbers s =
    started_numbers s.checked.answer s.checked.source.events s.checked.target.events s.checked.entries s.cost

-- A shortening: its answer, then the bytes of the shortened text and those of its matching.
abbrev pub short_numbers : Answer → ℕ → ℕ → List ℕ
short_numbers a bytes matching_bytes = a.number ∷ a.side ∷ a.place ∷ bytes ∷ matching_bytes ∷ []

abbrev pub shortened_numbers : ShortSaid → List ℕ
shortened_numbers r = short_numbers r.answer r.bytes r.matching_bytes
