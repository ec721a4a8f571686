-- Document 02, C-16: some locations are a device's registers, and a list names them. Assumes nothing.
use Rattle.std.specs.Prelude.{ℕ, Bool, false, cond, ◌&&◌, List, replicate, nat_le, slice_index_or}
use Rattle.event.specs.Limit.{places, last_place}
use Rattle.kinds.specs.Kind.{lawful, plain, atomic}
use Rattle.memory.specs.Memory.{stepped}
use Rattle.event.specs.declared.Event.{Event}
use Rattle.memory.specs.declared.Memory.{Memory}
use Rattle.memory.specs.declared.Stepped.{Stepped}

-- a list is a mark for each location, and names the locations that it marks
abbrev pub listed : List Bool → ℕ → Bool
listed regs l = nat_le l last_place && slice_index_or regs l false

-- "A call without a list lists none"
abbrev pub none_listed : List Bool
none_listed = replicate places false

-- a plain access to a listed location; what has no location, a fence or a lock, is none, whatever number stands in its place
abbrev pub is_register : List Bool → Event → Bool
is_register regs e = plain e && listed regs e.place

-- an atomic use of a listed location, which is answer 5
abbrev pub uses_atomically : List Bool → Event → Bool
uses_atomically regs e = atomic e && listed regs e.place

-- the memory after an event, as ever, and whether its value is the latest, which that of a register need not be: "a read there returns what the sensor
-- holds"
abbrev pub stepped_in : List Bool → Memory → Event → Stepped
stepped_in regs m e =
    record { memory = (stepped m e).memory; right = cond (is_register regs e) (lawful e) (stepped m e).right }
