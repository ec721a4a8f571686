-- A check with a list goes by what was read of the list, which is the same for two that agree on the group's lines. Assumes nothing.
use mathlib.Core.Path.{refl}
use Rattle.registers.proofs.Groups.{agreed}
use Rattle.checker.specs.Groups.{Apart}

pub apart : Apart
apart g a b s l = rw (agreed g a b s) (record { result = refl; source = refl; target = refl; entries = refl; line = refl })
