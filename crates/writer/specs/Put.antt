-- Document 01, "Lent room": bytes put from a place on. What lies beyond the end of the room is counted and not stored. Assumes nothing.
use Rattle.std.specs.Prelude.{ℕ, ◌+◌, ◌<◌, Bool, true, false, cond, ◌≡◌, List, [], ◌∷◌, ◌++◌, length}
use Rattle.std.proofs.lemmas.List.Edits.{sets}
use Rattle.kinds.specs.Kind.{lawful}
use Rattle.event.specs.declared.Event.{Event}
use Rattle.memory.specs.declared.Memory.{Memory}
use Rattle.record.specs.Form.{header}
use Rattle.record.specs.Layout.{event_line, init_line}
use Rattle.record.specs.declared.form.Form.{Form}
use Rattle.record.specs.declared.form.Form.TheVariants.{One}
use Rattle.trace.specs.Writing.{text_of, has_line, init_lines}

-- Of a room, a place and bytes: the room after them, and the place after them.
pub record Put (room : List ℕ) (at : ℕ) (bytes : List ℕ) (after : List ℕ) (next : ℕ) : Type 0 where
  pub counted : next ≡ at + length bytes
  pub stored : after ≡ sets room at bytes

-- The place after the bytes is a small number.
abbrev pub Small : ℕ → List ℕ → Type 0
Small at bytes = at + length bytes < 4294967296

-- A field with the TAB before it, that is there or not.
abbrev pub tab_if : Bool → List ℕ → List ℕ
tab_if true f = 9 ∷ f
tab_if false f = []

-- The `init` line of a location with its LF, if it is to be there.
abbrev pub init_part : Bool → ℕ → ℕ → List ℕ
init_part has place value = cond has (init_line place value ++ 10 ∷ []) []

-- An event without its code line, and its line of form 1 with its LF; none for an event outside the layout.
abbrev pub bare : Event → Event
bare e = record { kind = e.kind; place = e.place; order = e.order; first = e.first; second = e.second; code = 0 }

abbrev pub bare_line : Event → List ℕ
bare_line e = cond (lawful (bare e)) (event_line One (bare e) ++ 10 ∷ []) []

-- Line 1 and the `init` lines, each with its LF.
unfoldable pub start_text : Form → (ℕ → Bool) → Memory → List ℕ
start_text f has m = text_of (header f ∷ init_lines (has_line f has) 0 m.cells)
