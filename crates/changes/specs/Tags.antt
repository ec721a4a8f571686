-- Request C-12: what a run holds. Of each event that stands, in order, it holds a number that says where the event comes from: the index of a source
-- event, or 800 more than the index of a target event, for one that was inserted. The events themselves stay in the rooms. Assumes nothing.
use Rattle.std.specs.Prelude.{cond, List, [], ◌∷◌, map, ℕ, zero, suc, ◌+◌, ◌-◌, ltb, get_or}
use Rattle.event.specs.Room.{no_event}
use Rattle.event.specs.declared.Event.{Event}
use Rattle.rules.specs.Run.{Tag, old, new, Traced, traced, tag_of}
use Rattle.event.specs.Limit.{event_limit}

-- Where the event of a number comes from, and the number again.
abbrev pub decoded : ℕ → Tag
decoded k = cond (ltb k event_limit) (old (suc k)) (new (suc (k - event_limit)))

abbrev pub code : Tag → ℕ
code (old i) = i - 1
code (new k) = event_limit + (k - 1)

-- The event of a number, and with it where it comes from.
abbrev pub event_for : List Event → List Event → ℕ → Event
event_for s t k = cond (ltb k event_limit) (get_or s k no_event) (get_or t (k - event_limit) no_event)

abbrev pub traced_for : List Event → List Event → ℕ → Traced
traced_for s t k = traced (decoded k) (event_for s t k)

-- The trace that some numbers stand for, and the numbers of a trace.
abbrev pub trace : List Event → List Event → List ℕ → List Traced
trace s t ks = map (traced_for s t) ks

abbrev pub codes : List Traced → List ℕ
codes u = map (λ x. code (tag_of x)) u

-- What came before an index, nearest first, behind b.
abbrev pub behind : List Traced → List Traced → ℕ → List Traced
behind b u zero = b
behind b [] (suc i) = b
behind b (x ∷ u) (suc i) = behind (x ∷ b) u i
