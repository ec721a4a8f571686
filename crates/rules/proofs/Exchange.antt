-- Document 02, C-17: a compare exchange that fails "is synchronising", with a list and without, so that the rules see a wall, of which `Walls.antt` says
-- that it stays; "and it matches only a `cmpfail` with equal fields". Assumes nothing.
use mathlib.Core.Path.{◌≡◌, sym, ◌∙◌}
use mathlib.Core.Bool.{Bool}
use mathlib.Core.List.{List}
use lib.Dec.{T, eqb→eq}
use Rattle.kinds.specs.Kind.{row, cmpfail}
use Rattle.event.specs.declared.Event.{Event}
use Rattle.rules.specs.View.{wall, same, view_in}
use Rattle.rules.proofs.Same.{Shared, shared}

pub exchange_wall : (regs : List Bool) (e : Event) → e.kind ≡ cmpfail → view_in regs e ≡ wall
unfolding row
exchange_wall regs e k = rw k

-- what it is kept as has its kind, and each of its fields but the code line
pub kept_as_its_like : (e f : Event) → e.kind ≡ cmpfail → T (same e f)
    → (f.kind ≡ cmpfail) × (Shared e f × (e.order ≡ f.order))
unfolding row
kept_as_its_like e f k h =
    let r = shared e f h in
    (sym r.kinds ∙ k, (r, eqb→eq e.order f.order (rw k at r.orders)))
