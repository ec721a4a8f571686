-- The answers to a room in their order. Assumes nothing.
use Prim.Native.Nat.{ℕ, ◌+◌, ◌≤◌, ◌<◌}
use mathlib.Core.Bool.{Bool}
use mathlib.Core.Path.{◌≡◌}
use mathlib.Core.List.{List, []}
use native.Mathlib.Omega.{arith}
use lib.Dec.{eqb, ltb}
use borrow.Author.Tests.{eqb-true, eqb-false, ltb-true, ltb-false, ne_eqb, lt-ltb, le-ltb}
use Rattle.laws.proofs.Cases.{cases, either}
use Rattle.event.specs.Answer.{answer}
use Rattle.event.specs.Room.{onward}
use Rattle.event.specs.Told.{Refuses}
use Rattle.event.specs.declared.Answer.{Answer}
use Rattle.memory.specs.declared.Memory.{Memory}
use Rattle.trace.specs.Fault.{event_fault_in}
use Rattle.trace.specs.Writing.{count_of, layout_fault, room_fault_in}
use Rattle.event.specs.Limit.{event_limit}

module _ (regs : List Bool) (m : Memory) (room : List ℕ) {n : ℕ} (c : n ≡ count_of room) where
  pub room_full : event_limit < n → room_fault_in regs m room ≡ answer 3 0 (event_limit + 1)
  unfolding room_fault_in
  room_full h = rw (← c, lt-ltb event_limit n h)

  pub room_layout : n ≤ event_limit → ((layout_fault 1 (onward room 0 n)).number ≡ 0 → ⊥) → room_fault_in regs m room ≡ layout_fault 1 (onward room 0 n)
  unfolding room_fault_in
  room_layout h x = rw (← c, le-ltb event_limit n h, ne_eqb (layout_fault 1 (onward room 0 n)).number 0 x)

  pub layout_refuses : n ≤ event_limit → (a : Answer) → Refuses a → a ≡ layout_fault 1 (onward room 0 n) → a ≡ room_fault_in regs m room
  unfolding room_fault_in
  layout_refuses h a r q = rw (← c, le-ltb event_limit n h, ← q, r)

  pub room_events_lem : n ≤ event_limit → (layout_fault 1 (onward room 0 n)).number ≡ 0 → room_fault_in regs m room ≡ event_fault_in regs 0 1 m [] (onward room 0 n)
  unfolding room_fault_in
  room_events_lem h x = rw (← c, le-ltb event_limit n h, x)

  -- no refusal so far: the events are few, and all are lawful
  pub room_sound : (room_fault_in regs m room).number ≡ 0 → (n ≤ event_limit) × ((layout_fault 1 (onward room 0 n)).number ≡ 0)
  room_sound z =
      cases (either (ltb event_limit n))
      (λ y. let d : ◌≡◌ {A = ℕ} 3 0 = rw (room_full (ltb-true event_limit n y)) at z in absurd (omega arith))
      (λ y. let h : n ≤ event_limit = ltb-false event_limit n y in (
        h,
        cases (either (eqb (layout_fault 1 (onward room 0 n)).number 0)) (λ e. eqb-true _ _ e)
            (λ e. absurd (eqb-false _ _ e (rw (room_layout h (eqb-false _ _ e)) at z))),
      ))
