-- What a reading that does not refuse counts, and that it has room for it. Assumes nothing.
use Prim.Native.Nat.{ℕ, ◌≤◌}
use mathlib.Core.Path.{◌≡◌, refl, sym, ap}
use mathlib.Core.List.{List}
use native.Mathlib.Omega.{arith}
use lib.ListN.{length, set}
use Rattle.frame.specs.Reading.{text_fault}
use Rattle.frame.specs.Store.{put_all}
use Rattle.frame.proofs.Settled.{settled, fits}
use Rattle.matching.specs.Reading.{MatchingRead, matching_layout, refused, read_as, survey_of, entries_of, front, room_for, read_of, room_after}
use Rattle.event.specs.Told.{Refuses}
use Rattle.event.specs.declared.Answer.{Answer}
use Rattle.matching.proofs.Stores.{entries_front}

abbrev number : MatchingRead → ℕ
number r = r.answer.number

pub survey_done : (t : List ℕ) → (survey_of t).answer.number ≡ 0
    → ((text_fault matching_layout 3 t).number ≡ 0) × (survey_of t ≡ read_as (length (entries_of t)))
unfolding survey_of
survey_done t h = settled refused number (λ a. refl) (text_fault matching_layout 3 t) (read_as (length (entries_of t))) h

pub counts : (t : List ℕ) → (survey_of t).answer.number ≡ 0 → (survey_of t).entries ≡ length (entries_of t)
counts t h = ap (λ (r : MatchingRead). r.entries) (survey_done t h).1

module _ (t room : List ℕ) (h : (read_of t room).answer.number ≡ 0) where
  room_told : ((survey_of t).entries ≤ length room) × (read_of t room ≡ survey_of t)
  unfolding read_of
  room_told = fits refused number (λ a. refl) 3 (survey_of t).entries (length room) (survey_of t) h

  -- a reading that does not refuse is its survey
  pub read_passed : read_of t room ≡ survey_of t
  read_passed = room_told.1

  -- and has room for the entries
  read_fits : length (entries_of t) ≤ length room
  read_fits = omega (arith, room_told.0, counts t (rw read_passed at h))

  -- so they are stored at its front
  pub read_stores : put_all set room 0 (entries_of t) ≡ front (entries_of t) room
  read_stores = entries_front (entries_of t) room read_fits

-- the room afterwards, by what was surveyed: a refusal keeps it, and else the entries are stored
module _ (t room : List ℕ) where
  pub room_kept : (a : Answer) → Refuses a → refused a ≡ room_for (length room) (survey_of t) → room_after t room ≡ room
  unfolding room_after read_of
  room_kept a r q = rw (← q, r)

  pub room_stored : (n : ℕ) → read_as n ≡ room_for (length room) (survey_of t) → room_after t room ≡ put_all set room 0 (entries_of t)
  unfolding room_after read_of
  room_stored n q = rw (← q) (sym (read_stores t room (rw (← q) refl)))
