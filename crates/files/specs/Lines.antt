-- Requests C-12 and C-18: the lines of a run, as its program prints them; and lines put into a room, as much of them as fits. Assumes nothing.
use Rattle.std.specs.Prelude.{◌≡◌, ℕ, zero, suc, ◌+◌, ◌-◌, List, [], ◌++◌, length, take, drop}
use Rattle.event.specs.Room.{event_at}
use Rattle.changes.specs.declared.Step.{Step}
use Rattle.changes.specs.declared.Step.TheVariants.{Remove, Swap, Insert, Done, Stuck}
use Rattle.text.specs.Number.{decimal}
use Rattle.text.specs.Word.{bytes}
use Rattle.writer.specs.Put.{bare_line}

-- How many steps there are.
abbrev pub count_line : ℕ → List ℕ
count_line n = bytes "steps\t" ++ decimal n ++ bytes "\n"

-- The event of a number with its LF, as the last field of a line; no event has number 0.
abbrev pub event_field : List ℕ → ℕ → List ℕ
event_field room zero = bytes "\t"
event_field room (suc i) = bytes "\t" ++ bare_line (event_at room i)

-- A step of a run between the events of two rooms.
abbrev pub step_line : Step → List ℕ → List ℕ → List ℕ
step_line (Remove i k) source target = bytes "remove\t" ++ decimal i ++ bytes "\t" ++ decimal k ++ event_field source k
step_line (Swap i) source target = bytes "swap\t" ++ decimal i ++ bytes "\n"
step_line (Insert i) source target = bytes "insert\t" ++ decimal i ++ event_field target i
step_line Done source target = []
step_line Stuck source target = []

-- What a room for n bytes holds once more were put behind those that it held.
abbrev pub pushed : ℕ → List ℕ → List ℕ → List ℕ
pushed n held more = held ++ take (n - length held) more

-- The same of lent bytes and a place, and the place behind what was put; nothing is put behind their end.
pub record Puts (old : List ℕ) (at : ℕ) (line : List ℕ) (new : List ℕ) (next : ℕ) : Type 0 where
  pub place : next ≡ at + length (take (length old - at) line)
  pub bytes : new ≡ take at old ++ (take (length old - at) line ++ drop (at + length line) old)
