-- Document 01, "Trace text": locations and mutexes are 0 to 255, and a trace has at most 800 events. Assumes nothing.
use Rattle.std.specs.Prelude.{ℕ, suc}

-- the greatest location or mutex
abbrev pub last_place : ℕ
last_place = 255

-- how many places there are
abbrev pub places : ℕ
places = suc last_place

-- the most events
abbrev pub event_limit : ℕ
event_limit = 800
