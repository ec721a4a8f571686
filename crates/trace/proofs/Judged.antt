-- The events of a room one by one: the first of those that are left, the first that is bad (18, 19; 20 and 21 alike), and what 5 and 6 say. Assumes
-- nothing.
use Prim.Native.Nat.{ℕ, suc, ◌+◌, ◌-◌, ◌≤◌, ◌<◌}
use mathlib.Core.Bool.{Bool, true, false, ◌||◌, not, false≢true, or-true, or-false}
use mathlib.Core.Path.{◌≡◌, refl, sym, ◌∙◌}
use mathlib.Core.List.{List, [], ◌∷◌}
use native.Mathlib.Omega.{arith}
use lib.Dec.{eqb}
use borrow.Author.Tests.{eqb-true}
use Rattle.std.specs.Prelude.{Result, ⊤}
use Rattle.laws.proofs.Cases.{cases, either}
use Rattle.event.specs.Answer.{answer, done, first}
use Rattle.kinds.specs.Kind.{lawful}
use Rattle.memory.specs.Listed.{is_register, stepped_in}
use Rattle.memory.specs.Memory.{stepped}
use Rattle.event.specs.Room.{event_at, onward}
use Rattle.event.specs.Told.{Passes, passed}
use Rattle.event.specs.declared.Answer.{Answer}
use Rattle.event.specs.declared.Event.{Event}
use Rattle.memory.specs.declared.Memory.{Memory}
use Rattle.memory.specs.declared.Stepped.{Stepped}
use Rattle.uses.proofs.Bad.{bad_go, bad_here, bad_end}
use Rattle.frame.proofs.Settled.{first_done}
use Rattle.uses.specs.Use.{clashes_in}
use Rattle.trace.specs.Fault.{fault_at, event_fault_in}
use Rattle.uses.specs.Bad.{first_bad}

module _ (room : List ℕ) (i n : ℕ) where
  pub onward_next : i < n → onward room i (n - i) ≡ event_at room i ∷ onward room (i + 1) (n - (i + 1))
  unfolding onward
  onward_next h = let k : n - i ≡ suc (n - (i + 1)) = omega arith in rw k

  pub event_next : {e : Event} → e ≡ event_at room i → i < n → onward room i (n - i) ≡ e ∷ onward room (i + 1) (n - (i + 1))
  event_next q h = rw q (onward_next h)

  pub onward_end : n ≤ i → onward room i (n - i) ≡ []
  unfolding onward
  onward_end h = let k : n - i ≡ 0 = omega arith in rw k

pub onward_all : (room : List ℕ) (n : ℕ) → onward room 0 (n - 0) ≡ onward room 0 n
onward_all room n = let k : n - 0 ≡ n = omega arith in rw k

-- in a room, event by event: none of those before the i-th is
module _ (bad : Event → Bool) (number side : ℕ) where
  pub record Sought (room : List ℕ) (n i : ℕ) : Type 0 where
    pub few : i ≤ n
    pub same : first_bad bad number side 1 (onward room 0 n) ≡ first_bad bad number side (i + 1) (onward room i (n - i))

  pub sought_start : (room : List ℕ) (n : ℕ) → Sought room n 0
  sought_start room n = record { few = omega arith; same = rw (onward_all room n) }

  module _ {room : List ℕ} {n i : ℕ} (s : Sought room n i) where
    at_hand : i < n → first_bad bad number side 1 (onward room 0 n) ≡ first_bad bad number side (i + 1) (event_at room i ∷ onward room (i + 1) (n - (i + 1)))
    at_hand h = s.same ∙ rw (onward_next room i n h)

    pub sought_next : i < n → bad (event_at room i) ≡ false → Sought room n (i + 1)
    sought_next h b = record { few = omega arith; same = at_hand h ∙ bad_go bad number side (i + 1) (event_at room i) (onward room (i + 1) (n - (i + 1))) b }

    pub sought_here : i < n → bad (event_at room i) ≡ true → first_bad bad number side 1 (onward room 0 n) ≡ answer number side (i + 1)
    sought_here h b = at_hand h ∙ bad_here bad number side (i + 1) (event_at room i) (onward room (i + 1) (n - (i + 1))) b

    pub sought_end : n ≤ i → first_bad bad number side 1 (onward room 0 n) ≡ done
    sought_end h = s.same ∙ rw (onward_end room i n h) (bad_end bad number side (i + 1))

-- the whole of such a search
pub ruleset sought = (sought_start, sought_next, sought_here, sought_end)

-- what 5 and 6 say, by what they say of the first event
module _ (regs : List Bool) (side k : ℕ) (m : Memory) (before : List Event) (e : Event) (es : List Event) where
  abbrev pub its_fault : Answer
  its_fault = fault_at side k (clashes_in regs before e) (stepped_in regs m e).right

  abbrev pub others_fault : Answer
  others_fault = event_fault_in regs side (k + 1) (stepped m e).memory (e ∷ before) es

  pub fault_next : event_fault_in regs side k m before (e ∷ es) ≡ first its_fault others_fault
  unfolding event_fault_in
  fault_next = refl

-- an event without 5 or 6 neither clashes nor has another value than the latest
pub fault_free : (side k : ℕ) (clash right : Bool) → (fault_at side k clash right).number ≡ 0 → (clash ≡ false) × (right ≡ true)
fault_free side k true right h = absurd (omega arith)
fault_free side k false true h = (refl, refl)
fault_free side k false false h = absurd (omega arith)

-- what is handed back of an event's 5 or 6 tells it
pub fault_passes : (side k : ℕ) (clash right : Bool) {r : Result ⊤ Answer} → r ≡ passed (fault_at side k clash right) → Passes (fault_at side k clash right) r
fault_passes side k true right q = rw q (refl, refl)
fault_passes side k false true q = rw q refl
fault_passes side k false false q = rw q (refl, refl)

-- where no event is at fault, the first neither clashes nor has another value than the latest, and no other is at fault
pub fault_parts : (regs : List Bool) (side k : ℕ) (m : Memory) (before : List Event) (e : Event) (es : List Event) → (event_fault_in regs side k m before (e ∷ es)).number ≡ 0
    → ((clashes_in regs before e ≡ false) × ((stepped_in regs m e).right ≡ true)) × ((others_fault regs side k m before e es).number ≡ 0)
fault_parts regs side k m before e es h =
    let d = first_done (its_fault regs side k m before e es) (others_fault regs side k m before e es) (rw (fault_next regs side k m before e es) at h) in
    (fault_free side k (clashes_in regs before e) (stepped_in regs m e).right d.0, d.1)

pub fault_end : (regs : List Bool) (side k : ℕ) (m : Memory) (before : List Event) → event_fault_in regs side k m before [] ≡ done
unfolding event_fault_in
fault_end regs side k m before = refl

-- the first of three answers that refuses, and the first of two by the one alone
pub first_assoc : (a b c : Answer) → first a (first b c) ≡ first (first a b) c
first_assoc a b c = cases (either (eqb a.number 0)) (λ e. rw e) (λ e. rw (e, e))

pub first_same : (a b c : Answer) → (a.number ≡ 0 → b ≡ c) → first a b ≡ first a c
first_same a b c h = cases (either (eqb a.number 0)) (λ e. rw e (h (eqb-true a.number 0 e))) (λ e. rw e)

pub first_none : (a : Answer) → (a.number ≡ 0 → a ≡ done) → first a done ≡ a
first_none a h = cases (either (eqb a.number 0)) (λ e. rw e (sym (h (eqb-true a.number 0 e)))) (λ e. rw e)

-- an event that neither clashes nor has another value than the latest changes nothing of what was found before
pub faultless : (a : Answer) → (a.number ≡ 0 → a ≡ done) → (side k : ℕ) (clash right : Bool) → (clash || not right) ≡ false
    → a ≡ first a (fault_at side k clash right)
faultless a h side k true right e = absurd (false≢true (sym e))
faultless a h side k false false e = absurd (false≢true (sym e))
faultless a h side k false true e = sym (first_none a h)

-- whether a lawful event's value is right, by what the memory says of it
pub right_told : (regs : List Bool) (m : Memory) (e : Event) (s : Stepped) → lawful e ≡ true → s ≡ stepped m e → (s.right || is_register regs e) ≡ (stepped_in regs m e).right
right_told regs m e s h p =
    rw p (cases (either (is_register regs e)) (λ i. rw (i, h) (or-true (stepped m e).right)) (λ i. rw i (or-false (stepped m e).right)))
