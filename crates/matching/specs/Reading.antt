-- Document 01, "Numbers that come back" and "Lent room": the reading of a matching text, side 3. Assumes nothing.
use Rattle.std.specs.Prelude.{ℕ, ◌+◌, cond, List, [], ◌∷◌, ◌++◌, eqb, leb, length, drop, Option, Some, None, Result}
use Rattle.event.specs.Answer.{done}
use Rattle.event.specs.Told.{Tells}
use Rattle.event.specs.Limit.{event_limit}
use Rattle.event.specs.declared.Answer.{Answer}
use Rattle.text.specs.Line.{split, body, said_in}
use Rattle.frame.specs.Reading.{Layout, text_fault, settle, fitted}
use Rattle.matching.specs.Entry.{header, entry_of}

-- The most bytes.
abbrev pub matching_limit : ℕ
matching_limit = 32400

-- The refusal of a line after n entries, 2 or 3; 0 for none. An entry is a source event's, so that there are at most as many.
abbrev pub entry_fault : ℕ → Option ℕ → ℕ
entry_fault n None = 2
entry_fault n (Some e) = cond (leb event_limit n) 3 0

-- The layout of a matching: what is known is the number of entries so far.
abbrev pub matching_layout : Layout ℕ
matching_layout = record { limit = matching_limit; header = header; start = 0; fault = λ n l. entry_fault n (entry_of l); next = λ n l. n + 1 }

-- The entries of a text: those of the lines after line 1.
abbrev pub entries_on : Option ℕ → List ℕ
entries_on None = []
entries_on (Some e) = e ∷ []

abbrev pub entries_in : List (List ℕ) → List ℕ
entries_in ls = said_in (λ l. entries_on (entry_of l)) ls

unfoldable pub entries_of : List ℕ → List ℕ
entries_of t = entries_in (body (split t))

-- What a reading says: its answer and the number of entries, 0 under a refusal.
pub record MatchingRead : Type 0 where
  pub answer : Answer
  pub entries : ℕ

-- What a refusal says, no entry; and what a reading of n entries does.
abbrev pub refused : Answer → MatchingRead
refused a = record { answer = a; entries = 0 }

abbrev pub read_as : ℕ → MatchingRead
read_as n = record { answer = done; entries = n }

-- Answers 1 to 3 of a text, with its number of entries.
unfoldable pub survey_of : List ℕ → MatchingRead
survey_of t = settle refused (text_fault matching_layout 3 t) (read_as (length (entries_of t)))

-- 17, after the others: a room of so many words does not hold the entries.
abbrev pub room_for : ℕ → MatchingRead → MatchingRead
room_for words r = fitted refused 3 r.entries words r

-- A reading, by its text and the room lent.
unfoldable pub read_of : List ℕ → List ℕ → MatchingRead
read_of t room = room_for (length room) (survey_of t)

-- What is handed back is what a reading says: the number of entries, or the answer that refuses.
abbrev pub Reads : Result ℕ Answer → MatchingRead → Type 0
Reads result read = Tells read_as refused read result

-- A room with entries at its front.
abbrev pub front : List ℕ → List ℕ → List ℕ
front es room = es ++ drop (length es) room

-- The room afterwards: unchanged by a refusal, else with the entries at its front.
unfoldable pub room_after : List ℕ → List ℕ → List ℕ
room_after t room = cond (eqb (read_of t room).answer.number 0) (front (entries_of t) room) room
