-- Document 01, "Numbers that come back": what is handed back where a text was written or moved. What it says stands with the reading, in `trace`. Assumes
-- nothing.
use Rattle.std.specs.Prelude.{ℕ, Result}
use Rattle.event.specs.Answer.{answer}
use Rattle.event.specs.Told.{Tells}
use Rattle.event.specs.declared.Answer.{Answer}

-- How many bytes the text has, which answer 0 comes with, or the answer that refuses.
abbrev pub Wrote : Result ℕ Answer → Answer → Type 0
Wrote result said = Tells (λ n. answer 0 0 n) (λ a. a) said result
