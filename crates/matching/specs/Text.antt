-- Document 01, "Matching text": the text of entries, and which entries have one. Assumes nothing.
use Rattle.std.specs.Prelude.{ℕ, ◌≤◌, List, [], ◌∷◌, ◌++◌, map, length}
use Rattle.laws.specs.Each.{Each}
use Rattle.event.specs.Limit.{event_limit}
use Rattle.text.specs.Line.{unsplit}
use Rattle.matching.specs.Entry.{header, entry_line}

-- Line 1 and a line for each entry; nothing stands after the last LF.
abbrev pub match_text : List ℕ → List ℕ
match_text es = unsplit (header ∷ map entry_line es ++ ([] ∷ []))

-- Entries that have a text: few, and each a target number or 0 for gone.
pub record Fits (es : List ℕ) : Type 0 where
  pub few : length es ≤ event_limit
  pub numbers : Each (λ e. e ≤ event_limit) es
