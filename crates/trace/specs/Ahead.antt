-- Inner: the events of a text from a place on, one by one. Assumes nothing.
use Rattle.std.specs.Prelude.{ℕ, ◌+◌, ◌≤◌, ◌<◌, Option, Some, None, List, [], ◌∷◌, ◌≡◌, length}
use Rattle.event.specs.Limit.{places}
use Rattle.event.specs.declared.Event.{Event}
use Rattle.text.specs.Line.{split_from}
use Rattle.record.specs.Record.{record_of}
use Rattle.record.specs.declared.form.Form.{Form}
use Rattle.record.specs.declared.Record.{Record}
use Rattle.record.specs.declared.Record.TheVariants.{Init, AnEvent}
use Rattle.trace.specs.Reading.{events_in}
use Rattle.trace.specs.declared.ahead.Found.{Found}

-- The events of the lines from a place on.
abbrev pub heard_from : Form → List ℕ → ℕ → List Event
heard_from f t at = events_in f (split_from t at)

-- What is found where a line stands, by what it is: its event and the place after its LF, or what the lines after it have.
abbrev pub found_on : Option Record → ℕ → Option Found → Option Found
found_on (Some (AnEvent e)) next later = Some (record { event = e; next = next })
found_on (Some (Init p v)) next later = later
found_on None next later = later

-- What is found of lines, the first of which starts at a place. What stands after the last LF is no line.
unfoldable pub found_in : Form → ℕ → List (List ℕ) → Option Found
found_in f at [] = None
found_in f at (l ∷ []) = None
found_in f at (l ∷ m ∷ ls) = let next = at + length l + 1 in found_on (record_of f l) next (found_in f next (m ∷ ls))

-- What is found of a text from a place on.
abbrev pub found_from : Form → List ℕ → ℕ → Option Found
found_from f t at = found_in f at (split_from t at)

-- What that says of the events from a place on: the first of them, and where the others start; or that there is none.
abbrev pub Finds : Form → List ℕ → ℕ → Option Found → Type 0
Finds f t at (Some x) = (heard_from f t at ≡ x.event ∷ heard_from f t x.next) × ((at < x.next) × ((x.next ≤ length t) × (x.event.place < places)))
Finds f t at None = heard_from f t at ≡ []
