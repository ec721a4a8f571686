-- Document 01, "Offending line": the line at fault, as a part of the source or target text. Assumes nothing.
use Rattle.std.specs.Prelude.{ℕ, ◌+◌, ◌-◌, ◌≤◌, ◌≡◌, Bool, true, false, cond, ◌||◌, List, [], ◌∷◌, eqb, length, take, drop, Option, Some, None}
use Rattle.laws.specs.Has.{has}
use Rattle.event.specs.declared.Answer.{Answer}
use Rattle.text.specs.Line.{split}
use Rattle.record.specs.Record.{record_of}
use Rattle.record.specs.declared.form.Form.{Form}
use Rattle.record.specs.declared.Record.{Record}
use Rattle.trace.specs.Reading.{form_of}
use Rattle.checker.specs.declared.line.Span.{Span}
use Rattle.record.specs.declared.Record.TheVariants.{Init, AnEvent}

-- Whether a record is an event.
abbrev pub is_event : Option Record → Bool
is_event (Some (Init p v)) = false
is_event (Some (AnEvent e)) = true
is_event None = false

-- Whether a line of a text of a form is counted: every line, or only those that are events.
unfoldable pub counted : Form → Bool → List ℕ → Bool
counted f false l = true
counted f true l = is_event (record_of f l)

-- A part of a text, from one place to another.
abbrev pub span : ℕ → ℕ → Span
span from to = record { from = from; to = to }

-- A line, and where it stands in its text.
pub record Standing : Type 0 where
  pub line : List ℕ
  pub place : Span

abbrev pub nothing : Standing
nothing = record { line = []; place = span 0 0 }

-- Lines, of which the first stands at a place.
unfoldable pub standing : ℕ → List (List ℕ) → List Standing
standing at [] = []
standing at (l ∷ ls) = record { line = l; place = span at (at + length l) } ∷ standing (at + length l + 1) ls

-- The k-th line that is counted, from 1; nothing if there are not so many.
unfoldable pub nth_line : Form → Bool → ℕ → List Standing → Standing
nth_line f only k [] = nothing
nth_line f only k (s ∷ ss) = cond (counted f only s.line) (cond (eqb k 1) s (nth_line f only (k - 1) ss)) (nth_line f only k ss)

-- The place of 2, 3 and 4 is a line; that of 5, 6 and 10 to 16 is an event.
abbrev pub line_faults : List ℕ
line_faults = 2 ∷ 3 ∷ 4 ∷ []

abbrev pub event_faults : List ℕ
event_faults = 5 ∷ 6 ∷ 10 ∷ 11 ∷ 12 ∷ 13 ∷ 14 ∷ 15 ∷ 16 ∷ []

-- The line of a text that an answer's number and place name, without its LF; nothing for another number.
unfoldable pub line_of : ℕ → ℕ → List ℕ → Standing
line_of number place t =
    cond (has number line_faults) (nth_line (form_of t) false place (standing 0 (split t)))
    (cond (has number event_faults) (nth_line (form_of t) true place (standing 0 (split t))) nothing)

-- The side whose text has the line at fault: none where the number has no line.
unfoldable pub fault_side : Answer → ℕ
fault_side a = cond (has a.number line_faults || has a.number event_faults) a.side 0

-- The line at fault: of the source text, side 1, or the target text, side 2; else nothing.
unfoldable pub offending : List ℕ → List ℕ → Answer → Standing
offending source target a =
    cond (eqb (fault_side a) 1) (line_of a.number a.place source)
    (cond (eqb (fault_side a) 2) (line_of a.number a.place target) nothing)

-- The offending line of a check, and where it stands.
abbrev pub offending_line : List ℕ → List ℕ → Answer → List ℕ
offending_line source target a = (offending source target a).line

abbrev pub offending_span : List ℕ → List ℕ → Answer → Span
offending_span source target a = (offending source target a).place

-- The text that it is a part of: the target, side 2, else the source.
abbrev pub fault_text : List ℕ → List ℕ → Answer → List ℕ
fault_text source target a = cond (eqb (fault_side a) 2) target source

-- In memory (a block, and how far in) a part begins so many bytes after its text does.
abbrev pub Begins : ℕ × ℕ → ℕ × ℕ → ℕ → Type 0
Begins part text from = (part.0 ≡ text.0) × (part.1 ≡ text.1 + from)

-- A part of a text that is a given line.
pub record Spans (t line : List ℕ) (s : Span) : Type 0 where
  pub rises : s.from ≤ s.to
  pub within : s.to ≤ length t
  pub is : take (s.to - s.from) (drop s.from t) ≡ line
