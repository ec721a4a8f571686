-- Document 01, "Numbers that come back", "Lent room": what is written stands in the room, "and the rest is unchanged". Assumes nothing.
use Rattle.std.specs.Prelude.{ℕ, List}
use Rattle.std.proofs.lemmas.List.Edits.{sets}

-- A room with the bytes of a word stored one after the other from its front on, and else what it held.
abbrev pub wrote : List ℕ → List ℕ → List ℕ
wrote room word = sets room 0 word
