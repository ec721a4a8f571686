-- A reading in the midst of its events: one event more, and the end. Assumes nothing.
use Prim.Native.Nat.{ℕ, suc, ◌+◌}
use mathlib.Core.Path.{◌≡◌, refl, sym, ◌∙◌, ap, fun_ext}
use mathlib.Core.Bool.{Bool, false, cond, ◌&&◌, ◌||◌, or-false, or_assoc, or_comm}
use mathlib.Core.List.{List, [], ◌∷◌}
use native.Mathlib.Omega.{arith}
use lib.Dec.{eqb}
use lib.ListN.{length}
use Rattle.event.specs.Answer.{answer, done, first}
use Rattle.memory.specs.Listed.{stepped_in}
use Rattle.memory.specs.Memory.{stepped}
use Rattle.event.specs.declared.Answer.{Answer}
use Rattle.event.specs.declared.Event.{Event}
use Rattle.memory.specs.declared.Memory.{Memory}
use Rattle.memory.specs.declared.Stepped.{Stepped}
use Rattle.frame.specs.Reading.{settle}
use Rattle.record.specs.declared.form.Form.{Form}
use Rattle.uses.specs.Cover.{Start, touches, touched, lined, lacks_line, is_idle}
use Rattle.trace.specs.Fault.{cover_fault}
use Rattle.uses.specs.Use.{uses, clashes_in}
use Rattle.uses.specs.Bad.{first_bad}
use Rattle.trace.specs.Fault.{fault_at, event_fault_in}
use Rattle.trace.specs.Reading.{refused, read_as}
use Rattle.trace.specs.Survey.{judged_as}
use Rattle.trace.specs.Reading.{TraceRead}
use Rattle.uses.proofs.Bad.{bad_found}
use Rattle.trace.proofs.Judged.{fault_next, fault_end, first_assoc, first_same, others_fault}

-- 20 and 21 of what is left, after n events `before`, of which `bare` is the first that lacks its line; and 5 and 6, of which `found` is the first
abbrev pub cover_on : Form → ℕ → List Start → ℕ → List Event → Answer → List Event → Answer
cover_on f side is n before bare es =
    first (first bare (first_bad (lacks_line f (lined is)) 20 side (n + 1) es)) (first_bad (is_idle f (λ l. touched before l || touched es l)) 21 side 2 is)

-- the events after n others, which left the memory m, are `before`, nearest first, and had the faults `bare` and `found`, if any
unfoldable pub judged_on : List Bool → Form → ℕ → List Start → Memory → ℕ → Memory → List Event → Answer → Answer → List Event → TraceRead
judged_on regs f side is start n m before bare found es =
    settle refused (first (cover_on f side is n before bare es) (first found (event_fault_in regs side (n + 1) m before es))) (read_as (n + length es) start)

module _ (regs : List Bool) (f : Form) (side : ℕ) (is : List Start) (start : Memory) where
  pub on_start : (es : List Event) → judged_as regs f side is start es ≡ judged_on regs f side is start 0 start [] done done es
  unfolding judged_as judged_on cover_fault uses
  on_start es = let z : 0 + length es ≡ length es = omega arith in rw z

  module _ (n : ℕ) (m : Memory) (before : List Event) (bare found : Answer) where
    abbrev on : List Event → TraceRead
    on es = judged_on regs f side is start n m before bare found es

    -- no event is left
    abbrev idle : Answer
    idle = first_bad (is_idle f (touched before)) 21 side 2 is

    at_end : on [] ≡ settle refused (first (first (first bare done) idle) (first found done)) (read_as (n + 0) start)
    unfolding judged_on uses first_bad
    at_end =
        let o : ◌≡◌ {A = ℕ → Bool} (λ j. touched before j || false) (touched before) = fun_ext (λ j. or-false (touched before j)) in
        rw (fault_end regs side (n + 1) m before, o)

    pub on_bare : eqb bare.number 0 ≡ false → on [] ≡ refused bare
    on_bare z = at_end ∙ rw (z, z, z, z)

    module _ (b : bare.number ≡ 0) where
      pub on_idle : eqb idle.number 0 ≡ false → on [] ≡ refused idle
      on_idle z = at_end ∙ rw (b, z, z)

      pub on_found : idle.number ≡ 0 → eqb found.number 0 ≡ false → on [] ≡ refused found
      on_found i z = at_end ∙ rw (b, i, z, z)

      pub on_end_lem : idle.number ≡ 0 → found.number ≡ 0 → on [] ≡ read_as n start
      on_end_lem i z = let o : n + 0 ≡ n = omega arith in at_end ∙ rw (b, i, z, o)

    -- an event, whether it clashes and whether its value is the latest being asked only where nothing was found before
    pub on_go : (e : Event) (clash right : Bool) (s : Stepped) (bare' found' : Answer) → (found.number ≡ 0 → clash ≡ clashes_in regs before e)
        → right ≡ (stepped_in regs m e).right → s ≡ stepped m e → bare' ≡ cond (lacks_line f (lined is) e) (first bare (answer 20 side (n + 1))) bare
        → found' ≡ first found (fault_at side (n + 1) clash right) → (es : List Event)
        → on (e ∷ es) ≡ judged_on regs f side is start (n + 1) s.memory (e ∷ before) bare' found' es
    unfolding judged_on uses
    on_go e clash right s bare' found' q y z b g es =
        let c : n + suc (length es) ≡ n + 1 + length es = omega arith in
        let a : Answer = fault_at side (n + 1) clash (stepped_in regs m e).right in
        let d : Answer = fault_at side (n + 1) (clashes_in regs before e) (stepped_in regs m e).right in
        let w : first found a ≡ first found d = first_same found a d (λ z. rw (q z)) in
        let t : ◌≡◌ {A = ℕ → Bool} (λ j. touched before j || ((touches e && eqb e.place j) || touched es j))
        (λ j. ((touches e && eqb e.place j) || touched before j) || touched es j) =
        fun_ext (λ j. later (touched before j) (touches e && eqb e.place j) (touched es j)) in
        rw (
          b,
          g,
          y,
          z,
          c,
          t,
          bad_found (lacks_line f (lined is)) 20 side refl (n + 1) e es bare,
          fault_next regs side (n + 1) m before e es,
          first_assoc found d (others_fault regs side (n + 1) m before e es),
          w,
        )
      where
        later : (a b c : Bool) → (a || (b || c)) ≡ ((b || a) || c)
        later a b c = sym (or_assoc a b c) ∙ ap (λ (x : Bool). x || c) (or_comm a b)
