-- Document 01, "Numbers that come back": the faults 10 to 16, with 13 and 14 in their checkable form. What came before an event, and
-- what comes after it, is listed nearest first. Assumes nothing.
use Rattle.std.specs.Prelude.{Bool, true, false, not, cond, ◌&&◌, ◌||◌, List, [], ◌∷◌, ℕ, zero, suc, eqb, ltb, get_or}
use Rattle.std.proofs.Math.Option.{Option, none, some}
use Rattle.event.specs.Room.{no_event}
use Rattle.event.specs.declared.Event.{Event}
use Rattle.rules.specs.View.{View, wall, load, store, value_of, apart, same}
use Rattle.rules.specs.Moves.{group as group_of, near as near_of}

-- What becomes of an event: it is gone, or it stands in the target at a number; `new` says that the source does not have it.
pub data Fate : Type 0 where
  gone : Fate
  stays : (new : Bool) (at : ℕ) → Fate

-- An event as the faults see it.
pub data Item : Type 0 where
  item : View → Fate → Item

-- What is seen of it, what becomes of it, the accesses to a location up to the first synchronising event, and the near one of these.
abbrev pub view_of : Item → View
view_of (item v f) = v

abbrev pub fate_of : Item → Fate
fate_of (item v f) = f

abbrev pub group : ℕ → List Item → List Item
group l s = group_of view_of l s

abbrev pub near : ℕ → List Item → Option View
near l s = near_of view_of l s

-- An entry says that its event is gone: it is 0. Another number says that it is kept there.
abbrev pub is_gone : ℕ → Bool
is_gone zero = true
is_gone (suc n) = false

-- The fate that an entry names.
abbrev pub fate : ℕ → Fate
fate n = cond (is_gone n) gone (stays false n)

-- The element of a number, counted from 1.
abbrev pub nth : {A : Type 0} → A → List A → ℕ → A
nth d l zero = d
nth d l (suc i) = get_or l i d

-- There is nothing; there is the value v.
abbrev pub is_none : {A : Type 0} → Option A → Bool
is_none none = true
is_none (some x) = false

abbrev pub is : ℕ → Option ℕ → Bool
is v none = false
is v (some w) = eqb w v

-- 10: a kept event differs from its target event, marks apart.
abbrev pub unlike : List Event → Event → Fate → Bool
unlike t e gone = false
unlike t e (stays w n) = not (same e (nth no_event t n))

-- 11: a synchronising event is gone.
abbrev pub wall_gone : Item → Bool
wall_gone (item v (stays w n)) = false
wall_gone (item wall gone) = true
wall_gone (item (load p v u) gone) = false
wall_gone (item (store p v) gone) = false

-- Both stay, and the first has the greater target number.
abbrev pub above : Item → Item → Bool
above (item v gone) f = false
above (item v (stays w n)) (item v' gone) = false
above (item v (stays w n)) (item v' (stays w' n')) = ltb n' n

-- 12: an earlier kept event has the greater target number and the two are not plain at different locations.
abbrev pub crossed : List Item → Item → Bool
crossed [] x = false
crossed (y ∷ b) x = (above y x && not (apart (view_of y) (view_of x))) || crossed b x

-- 13: a gone load is used and first of the accesses to its location since the last synchronising event.
abbrev pub load_gone : List Item → Item → Bool
load_gone b (item v (stays w n)) = false
load_gone b (item wall gone) = false
load_gone b (item (load p v u) gone) = u && is_none (near p b)
load_gone b (item (store p v) gone) = false

-- Closing: of the accesses after a store, the first that is a store or is kept is a kept load, or there is none.
abbrev pub closing : List Item → Bool
closing [] = true
closing (item wall f ∷ g) = true
closing (item (load p v u) gone ∷ g) = closing g
closing (item (load p v u) (stays w n) ∷ g) = true
closing (item (store p v) f ∷ g) = false

-- The witness's value: of the accesses before a store the last kept one or, with no kept one, the first of all if that is a load.
abbrev pub witness : List Item → Option ℕ
witness [] = none
witness (item v (stays w n) ∷ g) = some (value_of v)
witness (item wall gone ∷ []) = none
witness (item (load p v u) gone ∷ []) = some v
witness (item (store p v) gone ∷ []) = none
witness (item v gone ∷ f ∷ g) = witness (f ∷ g)

-- 14: a gone store is closing and has no witness of equal value.
abbrev pub store_gone : List Item → Item → List Item → Bool
store_gone b (item v (stays w n)) a = false
store_gone b (item wall gone) a = false
store_gone b (item (load p v u) gone) a = false
store_gone b (item (store p v) gone) a = closing (group p a) && not (is v (witness (group p b)))

-- 15, 16: a target event without a source may not be inserted: it is no load, or a load with no near access before it.
abbrev pub unsupported : List Item → Item → Bool
unsupported b (item v gone) = false
unsupported b (item v (stays false n)) = false
unsupported b (item wall (stays true n)) = true
unsupported b (item (load p v u) (stays true n)) = is_none (near p b)
unsupported b (item (store p v) (stays true n)) = true
