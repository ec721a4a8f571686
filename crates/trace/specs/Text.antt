-- Document 01, "Trace text", and document 02, C-11: which traces have a text (but for 5 and 6, which are asked of their events), and "The longest
-- lawful trace text". Assumes nothing.
use Rattle.std.specs.Prelude.{ℕ, suc, ◌+◌, ◌*◌, ◌≤◌, List, ◌≡◌, length}
use Rattle.laws.specs.Each.{Each}
use Rattle.event.specs.Limit.{places, event_limit}
use Rattle.kinds.specs.Kind.{last_value}
use Rattle.event.specs.declared.Event.{Event}
use Rattle.memory.specs.declared.Memory.{Memory}
use Rattle.record.specs.Form.{header}
use Rattle.record.specs.Record.{Fit, longest_event, longest_init}
use Rattle.record.specs.declared.form.Form.{Form}

-- Values in range, as the cells of a memory.
abbrev pub Valued : List ℕ → Type 0
Valued vs = Each (λ v. v ≤ last_value) vs

-- A starting memory and events that have a text in a form.
pub record Fits (f : Form) (m : Memory) (es : List Event) : Type 0 where
  pub size : length m.cells ≡ places
  pub values : Valued m.cells
  pub few : length es ≤ event_limit
  pub events : Each (Fit f) es

-- The longest text: line 1, a starting value of 29 bytes for each location, and the most events, each with its LF. With events of 55 bytes it has
-- 52,488 in form 1, with events of 61 bytes 57,288 in form 2.
abbrev pub longest_text : Form → ℕ
longest_text f = suc (length (header f)) + places * suc longest_init + event_limit * suc (longest_event f)
