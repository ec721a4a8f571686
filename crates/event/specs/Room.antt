-- docs/LAYOUT.md: an event is six words of a room. Assumes nothing.
use Rattle.std.specs.Prelude.{ℕ, zero, suc, ◌+◌, ◌*◌, ◌/◌, ◌<◌, Bool, cond, List, [], ◌∷◌, ◌++◌, ltb, length, get_or, take, drop}
use Rattle.event.specs.Limit.{places}
use Rattle.event.specs.declared.Event.{Event}

-- an event's six words
abbrev pub words : Event → List ℕ
words e = e.kind ∷ e.place ∷ e.order ∷ e.first ∷ e.second ∷ e.code ∷ []

-- how many they are
abbrev pub event_words : ℕ
event_words = 6

-- the words of events, one event after the other
unfoldable pub flat : List Event → List ℕ
flat [] = []
flat (e ∷ es) = words e ++ flat es

-- the event whose words start at a place
abbrev pub event_from : List ℕ → ℕ → Event
event_from l at = record {
  kind = get_or l at 0;
  place = get_or l (at + 1) 0;
  order = get_or l (at + 2) 0;
  first = get_or l (at + 3) 0;
  second = get_or l (at + 4) 0;
  code = get_or l (at + 5) 0;
}

-- no event: all 0, which is no kind
abbrev pub no_event : Event
no_event = record { kind = 0; place = 0; order = 0; first = 0; second = 0; code = 0 }

-- how many events lie in a room whole
abbrev pub capacity : List ℕ → ℕ
capacity l = length l / event_words

-- whether the event at an index does
abbrev pub in_room : List ℕ → ℕ → Bool
in_room l i = ltb i (capacity l)

-- the event at an index of a room
unfoldable pub event_at : List ℕ → ℕ → Event
event_at l i = cond (in_room l i) (event_from l (i * event_words)) no_event

-- the n events of a room from an index on
unfoldable pub onward : List ℕ → ℕ → ℕ → List Event
onward l i zero = []
onward l i (suc n) = event_at l i ∷ onward l (i + 1) n

-- the events that lie in a room whole
abbrev pub whole_events : List ℕ → List Event
whole_events l = onward l 0 (capacity l)

-- each of them has its place in range
abbrev pub Placed : List ℕ → Type 0
Placed l = (i : ℕ) → i < capacity l → (event_at l i).place < places

-- a room with an event put at an index; where its words do not fit, the room stays as it is
unfoldable pub put_at : List ℕ → ℕ → Event → List ℕ
put_at l i e = cond (in_room l i) (take (i * event_words) l ++ words e ++ drop (i * event_words + event_words) l) l
