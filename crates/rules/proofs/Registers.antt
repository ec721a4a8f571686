-- Document 02, C-16: "A plain access to a listed location counts as synchronising everywhere: kept, never inserted (16 for a load, 15 for a store) or
-- swapped, and near accesses don't span it". The rules see it as a wall, of which `Walls.antt` says these. Assumes nothing.
use mathlib.Core.Path.{◌≡◌}
use mathlib.Core.Bool.{Bool, true}
use mathlib.Core.List.{List}
use Rattle.memory.specs.Listed.{is_register}
use Rattle.event.specs.declared.Event.{Event}
use Rattle.rules.specs.View.{wall, view_in}

pub register_wall : (regs : List Bool) (e : Event) → is_register regs e ≡ true → view_in regs e ≡ wall
register_wall regs e h = rw h
