-- 5 and 6 in the midst of the events of a room, which are lawful: what is known before an event, after it, and at the end. Assumes nothing.
use Prim.Native.Nat.{ℕ, ◌+◌, ◌-◌, ◌≤◌, ◌<◌}
use mathlib.Core.Bool.{Bool, true, not, ◌||◌}
use mathlib.Core.List.{List, [], ◌∷◌}
use mathlib.Core.Path.{◌≡◌, refl, sym, ◌∙◌, ap}
use native.Mathlib.Omega.{arith}
use borrow.Author.Tests.{not-false}
use lib.ListN.{length, length-set, replicate}
use Rattle.event.specs.Answer.{done, first}
use Rattle.event.specs.Room.{event_at, onward}
use Rattle.event.specs.Told.{Refuses}
use Rattle.event.specs.declared.Answer.{Answer}
use Rattle.event.specs.declared.Event.{Event}
use Rattle.kinds.specs.Kind.{lawful}
use Rattle.kinds.proofs.Lawful.{place_below}
use Rattle.memory.specs.Listed.{is_register, uses_atomically, stepped_in}
use Rattle.memory.specs.Memory.{stepped}
use Rattle.memory.specs.declared.Memory.{Memory}
use Rattle.memory.specs.declared.Stepped.{Stepped}
use Rattle.uses.specs.Use.{clashes_in}
use Rattle.uses.specs.Way.{clashing, clashing_in, ways_after, ways_with}
use Rattle.uses.proofs.Bad.{bad_none}
use Rattle.uses.proofs.Ways.{or_right, with_inside, clash_inside, Marks, marks_start, marks_told, clash, marks_next}
use Rattle.trace.specs.Fault.{fault_at, event_fault_in}
use Rattle.trace.specs.Writing.{layout_fault}
use Rattle.trace.proofs.Judged.{event_next, onward_end, onward_all, fault_next, fault_end, fault_free, right_told}

module _ (regs : List Bool) (room : List ℕ) (n : ℕ) (start : Memory) where
  abbrev whole : Answer
  whole = event_fault_in regs 0 1 start [] (onward room 0 n)

  -- i events, none of which is at fault, left the memory m and the ways; they are `before`, nearest first
  pub record Judging (m : Memory) (ways : List ℕ) (i : ℕ) : Type 0 where
    pub within : i ≤ n
    pub size : length ways ≡ 256
    pub sound : (layout_fault (i + 1) (onward room i (n - i))).number ≡ 0
    pub before : List Event
    pub marks : Marks ways before
    pub same : whole ≡ event_fault_in regs 0 (i + 1) m before (onward room i (n - i))

  pub judging_start : (layout_fault 1 (onward room 0 n)).number ≡ 0 → Judging start (replicate 256 0) 0
  judging_start h =
      let p = onward_all room n in
      record { within = omega arith; size = refl; sound = rw p h; before = []; marks = marks_start; same = rw p }

  module _ (m : Memory) (ways : List ℕ) (i : ℕ) (w : Judging m ways i) where
    pub judging_end : n ≤ i → done ≡ whole
    judging_end h = sym (w.same ∙ rw (onward_end room i n h) (fault_end regs 0 (i + 1) m w.before))

    -- an event more
    module _ (few : i < n) (e : Event) (at_hand : e ≡ event_at room i) (c : Bool) (clashes : c ≡ clashing_in regs ways e) (s : Stepped) (steps : s ≡ stepped m e)
        (right : Bool) (latest : right ≡ (s.right || is_register regs e)) where
      parts : onward room i (n - i) ≡ e ∷ onward room (i + 1) (n - (i + 1))
      parts = event_next room i n at_hand few

      sound_now : (lawful e ≡ true) × ((layout_fault (i + 1 + 1) (onward room (i + 1) (n - (i + 1)))).number ≡ 0)
      sound_now =
          let b = bad_none (λ x. not (lawful x)) 18 0 (i + 1) e _ (λ z. omega arith) (rw parts at w.sound) in
          (not-false _ b.0, b.1)

      inside : e.place < 256
      inside = place_below e sound_now.0

      clash_told : c ≡ (uses_atomically regs e || clashing ways e)
      clash_told = clashes ∙ clash_inside regs ways e inside

      clash_is : c ≡ clashes_in regs w.before e
      clash_is = clash_told ∙ ap (λ (b : Bool). uses_atomically regs e || b) (sym (clash ways w.before e inside w.marks))

      right_is : right ≡ (stepped_in regs m e).right
      right_is = latest ∙ right_told regs m e s sound_now.0 steps

      abbrev its : Answer
      its = fault_at 0 (i + 1) c right

      onward_is : whole ≡ first its (event_fault_in regs 0 (i + 1 + 1) s.memory (e ∷ w.before) (onward room (i + 1) (n - (i + 1))))
      onward_is = w.same ∙ rw (parts, clash_is, right_is, steps) (fault_next regs 0 (i + 1) m w.before e _)

      -- which is at fault
      pub judging_stops : (a : Answer) → Refuses a → a ≡ its → a ≡ whole
      judging_stops a r q = sym (onward_is ∙ rw (← q, r))

      -- or not
      pub judging_goes : (ways' : List ℕ) → ways' ≡ ways_with ways e → done ≡ its → Judging s.memory ways' (i + 1)
      judging_goes ways' uses q =
          let after : ways' ≡ ways_after ways e = uses ∙ with_inside ways e inside in
          let none = (fault_free 0 (i + 1) c right (ap (λ (a : Answer). a.number) (sym q))).0 in
          record {
            within = omega arith;
            size = ap length after ∙ simp length-set w.size;
            sound = sound_now.1;
            before = e ∷ w.before;
            marks = marks_told (e ∷ w.before) after (marks_next ways w.before e inside w.marks w.size (or_right (uses_atomically regs e) _ (sym clash_told ∙ none)));
            same = onward_is ∙ rw (← q);
          }
