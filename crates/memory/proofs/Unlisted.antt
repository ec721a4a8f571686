-- A call without a list: no location is listed, no access is a register's, and an event is right as ever. Under a list, an event of the layout is right if
-- it is a register's or has the latest value. Assumes nothing.
use Rattle.std.proofs.Common.{◌≡◌, ℕ, zero, suc, Bool, true, false, cond, ◌&&◌, ◌||◌, leb, List, get_or, replicate, refl, ap, ◌∙◌}
use mathlib.Core.Bool.{and-false}
use Rattle.event.specs.Limit.{places, last_place}
use Rattle.kinds.specs.Kind.{lawful, plain}
use Rattle.memory.specs.Memory.{stepped}
use Rattle.memory.specs.Listed.{listed, none_listed, is_register, stepped_in}
use Rattle.event.specs.declared.Event.{Event}
use Rattle.memory.specs.declared.Memory.{Memory}

no_mark : (n l : ℕ) → get_or (replicate n false) l false ≡ false
no_mark zero l = refl
no_mark (suc n) zero = refl
no_mark (suc n) (suc l) = no_mark n l

pub none_listed_lem : (l : ℕ) → listed none_listed l ≡ false
none_listed_lem l = ap (λ (c : Bool). leb l last_place && c) (no_mark places l) ∙ and-false (leb l last_place)

pub no_register : (e : Event) → is_register none_listed e ≡ false
no_register e = ap (λ (c : Bool). plain e && c) (none_listed_lem e.place) ∙ and-false (plain e)

-- an access that is no register's is right as ever
pub step_plain : (regs : List Bool) (m : Memory) (e : Event) → is_register regs e ≡ false → stepped_in regs m e ≡ stepped m e
step_plain regs m e h =
    ap (λ (c : Bool). record { memory = (stepped m e).memory; right = cond c (lawful e) (stepped m e).right }) h

pub right_or_register : (regs : List Bool) (m : Memory) (e : Event) → lawful e ≡ true
    → (stepped_in regs m e).right ≡ (is_register regs e || (stepped m e).right)
right_or_register regs m e h = go (is_register regs e)
  where
    go : (c : Bool) → cond c (lawful e) (stepped m e).right ≡ (c || (stepped m e).right)
    go true = h
    go false = refl

pub step_none : (m : Memory) (e : Event) → stepped_in none_listed m e ≡ stepped m e
step_none m e = step_plain none_listed m e (no_register e)
