-- The target event of a kept number stands in the room one before that number. Assumes nothing.
use mathlib.Core.Path.{◌≡◌, sym, ◌∙◌, ap}
use mathlib.Core.Bool.{false, not, false≢true}
use mathlib.Core.List.{List}
use Prim.Native.Nat.{ℕ, zero, suc, ◌-◌}
use native.Mathlib.Omega.{arith}
use Rattle.event.specs.Room.{event_at, onward, capacity}
use Rattle.event.specs.declared.Event.{Event}
use Rattle.rules.specs.View.{same}
use Rattle.rules.specs.Fault.{fate, is_gone, unlike}
use Rattle.sight.proofs.Events.{room_at}
use Rattle.fates.proofs.source.differs.Goals as goal

unlike_at : (l : List ℕ) (e : Event) (n : ℕ) → is_gone n ≡ false → unlike (onward l 0 (capacity l)) e (fate n) ≡ not (same e (event_at l (n - 1)))
unlike_at l e zero g = absurd (false≢true (sym g))
unlike_at l e (suc n) g =
    let i : n ≡ suc n - 1 = omega arith in
    ap (λ (f : Event). not (same e f)) (room_at l n ∙ ap (event_at l) i)

pub returns : goal.returns
returns c =
    rw (c.is_same.ensures, c.get.ensures, c.number_index.ensures) (sym (unlike_at c.args.target.now c.args.e c.args.n c.requires))
