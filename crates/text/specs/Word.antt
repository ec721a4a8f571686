-- Document 01, "Trace text", the table of lines: a word of the table is compared byte by byte. Assumes nothing.
use Rattle.std.specs.Prelude.{ℕ, Bool, true, false, ◌&&◌, List, [], ◌∷◌, eqb}
use Prim.Native.Char.{code}
use Prim.Native.String.{String}
use Prim.Native.String.{[] as none, ◌∷◌ as ◌then◌}

-- The bytes of a word of ASCII characters.
abbrev pub bytes : String → List ℕ
bytes none = []
bytes (c then s) = code c ∷ bytes s

-- Whether two words are the same.
unfoldable pub same_bytes : List ℕ → List ℕ → Bool
same_bytes [] [] = true
same_bytes [] (b ∷ m) = false
same_bytes (a ∷ l) [] = false
same_bytes (a ∷ l) (b ∷ m) = eqb a b && same_bytes l m
