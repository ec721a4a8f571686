-- Document 01, "Numbers that come back", and document 02, C-11, C-15 and C-16: a number, a side and a place; and the table. Assumes nothing.
use Rattle.std.specs.Prelude.{ℕ, Bool, true, cond, ◌&&◌, List, [], ◌∷◌, ◌≡◌, eqb, leb, get_or}
use Rattle.laws.specs.Has.{has}
use Rattle.event.specs.Limit.{last_place}
use Rattle.event.specs.declared.Answer.{Answer}

abbrev pub answer : ℕ → ℕ → ℕ → Answer
answer n s p = record { number = n; side = s; place = p }

-- No refusal.
abbrev pub done : Answer
done = answer 0 0 0

-- The first of two answers that refuses.
abbrev pub first : Answer → Answer → Answer
first a b = cond (eqb a.number 0) b a

-- What a place is: nothing; a line, an event or an entry, which count from 1; a location; or how many.
pub data Where : Type 0 where
  nowhere ordinal location amount : Where

abbrev pub can_be : Where → ℕ → Bool
can_be nowhere p = eqb p 0
can_be ordinal p = leb 1 p
can_be location p = leb p last_place
can_be amount p = true

-- The sides that have a text: 1 the source, 2 the target, 3 the matching, 4 the list of registers.
abbrev pub text_sides : List ℕ
text_sides = 1 ∷ 2 ∷ 3 ∷ 4 ∷ []

-- The table, by the answer's number: the sides that it comes with (0 none and the writer's, else that of a text), and what its place is.
abbrev pub answers : List (List ℕ × Where)
answers =
    (0 ∷ [], amount)  -- 0 done
    ∷ (text_sides, nowhere)  -- 1 text over its limit
    ∷ (text_sides, ordinal)  -- 2 line not of the layout
    ∷ (0 ∷ 1 ∷ 2 ∷ 3 ∷ [], ordinal)  -- 3 801st event or entry
    ∷ (1 ∷ 2 ∷ [], ordinal)  -- 4 `init` after an event, or not ascending
    ∷ (0 ∷ 1 ∷ 2 ∷ [], ordinal)  -- 5 location used by plain and atomic events
    ∷ (0 ∷ 1 ∷ 2 ∷ [], ordinal)  -- 6 value not the latest
    ∷ (2 ∷ [], location)  -- 7 starting values differ
    ∷ (3 ∷ [], amount)  -- 8 entries not as many as source events
    ∷ (3 ∷ [], ordinal)  -- 9 kept number beyond the target, or used before
    ∷ (1 ∷ [], ordinal)  -- 10 kept event differs
    ∷ (1 ∷ [], ordinal)  -- 11 synchronising event gone
    ∷ (1 ∷ [], ordinal)  -- 12 kept against the target's order
    ∷ (1 ∷ [], ordinal)  -- 13 gone load that cannot be removed
    ∷ (1 ∷ [], ordinal)  -- 14 gone store that cannot be removed
    ∷ (2 ∷ [], ordinal)  -- 15 target event without a source, no load
    ∷ (2 ∷ [], ordinal)  -- 16 target load without a source
    ∷ (0 ∷ 1 ∷ 2 ∷ 3 ∷ [], amount)  -- 17 lent room too short
    ∷ (0 ∷ [], ordinal)  -- 18 fields outside the layout
    ∷ (0 ∷ 1 ∷ [], ordinal)  -- 19 code line would be lost
    ∷ (1 ∷ 2 ∷ [], ordinal)  -- 20 touched location without a line
    ∷ (1 ∷ 2 ∷ [], ordinal)  -- 21 zero line for an untouched location
    ∷ (4 ∷ [], ordinal)  -- 22 register out of order, or the 33rd of its group
    ∷ []

-- An answer is a row of it.
abbrev pub InTable : Answer → Type 0
InTable a = let r = get_or answers a.number ([], nowhere) in (has a.side r.0 && can_be r.1 a.place) ≡ true
