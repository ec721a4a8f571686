-- The steps of a reading: the lines after some entries. Assumes nothing.
use Rattle.std.specs.Prelude.{ℕ, ◌+◌, List, length}
use Rattle.frame.specs.Reading.{tried}
use Rattle.matching.specs.Reading.{MatchingRead, matching_layout, entries_in, refused, read_as}

-- The entries of lines counted, after n others.
abbrev pub counting : ℕ → List (List ℕ) → MatchingRead
counting n ls = read_as (n + length (entries_in ls))

-- The lines after n entries; the first of them is line n + 2.
abbrev pub survey_lines : ℕ → List (List ℕ) → MatchingRead
survey_lines n ls = tried matching_layout refused 3 (n + 2) n (counting n) ls
