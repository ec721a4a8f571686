-- Document 01, "Matching text": one line for each source event. An entry is the kept target number, or 0 for gone. Assumes nothing.
use Rattle.std.specs.Prelude.{ℕ, cond, List, [], ◌∷◌, eqb, Option, Some, None}
use Rattle.event.specs.Limit.{event_limit}
use Rattle.text.specs.Field.{fields, on_field, on_end, join}
use Rattle.text.specs.Number.{number_of, on_number, decimal}
use Rattle.text.specs.Word.{bytes, same_bytes}

abbrev pub keep_word : List ℕ
keep_word = bytes "keep"

abbrev pub gone_word : List ℕ
gone_word = bytes "gone"

-- Line 1 of a matching, form 1.
abbrev pub header : List ℕ
header = bytes "match\t1"

-- `keep`, after the word: a target number, which is at most that of the last event, and nothing more.
unfoldable pub keep_rest : List (List ℕ) → Option ℕ
keep_rest fs =
    on_field None fs (λ f rest. on_number None (number_of event_limit f) (λ n.
    on_end None rest (cond (eqb n 0) None (Some n))))

-- `gone`, and nothing more.
unfoldable pub gone_rest : List (List ℕ) → Option ℕ
gone_rest fs = on_end None fs (Some 0)

-- What a line is: an entry, or not of the layout.
unfoldable pub entry_of : List ℕ → Option ℕ
entry_of line =
    on_field None (fields line) (λ word fs.
    cond (same_bytes word gone_word) (gone_rest fs) (cond (same_bytes word keep_word) (keep_rest fs) None))

-- The line of an entry.
unfoldable pub entry_line : ℕ → List ℕ
entry_line n = cond (eqb n 0) gone_word (join (keep_word ∷ decimal n ∷ []))
