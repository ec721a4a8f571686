-- An event is six words: one more put behind those at the front of a room. So events that a room holds, put one after the other, stand at its
-- front. Assumes nothing.
use Prim.Native.Nat.{ℕ, ◌+◌, ◌*◌, ◌/◌, ◌≤◌}
use mathlib.Core.Path.{◌≡◌, refl}
use mathlib.Core.List.{List, [], ◌∷◌, ◌++◌}
use native.Mathlib.Omega.{arith}
use lib.ListN.{length, drop}
use borrow.Author.Tests.{ltb-true}
use Rattle.laws.proofs.Cases.{cases, either}
use Rattle.event.specs.Room.{flat, in_room, put_at}
use Rattle.event.specs.declared.Event.{Event}
use Rattle.event.proofs.Rooms.{put_next, length_put}
use Rattle.frame.specs.Store.{put_all}
use Rattle.frame.proofs.Stores.{Puts, all_front}
use Rattle.trace.specs.Reading.{front}

pub keeps : (l : List ℕ) (i : ℕ) (e : Event) → length (put_at l i e) ≡ length l
unfolding put_at
keeps l i e = cases (either (in_room l i)) (λ y. length_put l i e (ltb-true i (length l / 6) y)) (λ y. rw y)

pub none : (r : List ℕ) → flat [] ++ drop (0 * 6) r ≡ r
unfolding flat
none r = refl

abbrev pub events_put : Puts Event put_at
events_put = record {
  words = flat;
  room = λ n. n * 6;
  grows = λ i j h. omega arith;
  none = none;
  one_more = put_next;
  keeps = keeps;
}

pub events_front : (es : List Event) (room : List ℕ) → length es * 6 ≤ length room → put_all put_at room 0 es ≡ front es room
events_front es room h = all_front put_at events_put room es h

-- events put one by one: the first, and none
pub put_heard : (room : List ℕ) (i : ℕ) (e : Event) (es : List Event) → put_all put_at room i (e ∷ es) ≡ put_all put_at (put_at room i e) (i + 1) es
unfolding put_all
put_heard room i e es = refl

pub put_none : (room : List ℕ) (i : ℕ) → put_all put_at room i [] ≡ room
unfolding put_all
put_none room i = refl
