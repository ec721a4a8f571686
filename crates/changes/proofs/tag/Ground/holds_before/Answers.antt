-- An event ends the search as a wall or at the location, or is passed. Assumes nothing.
use Rattle.std.proofs.Common.{arith}
use Rattle.changes.proofs.Near.{near_wall, near_here, near_past, value_of_lem}
use Rattle.changes.proofs.Traces.{behind_below}
use Rattle.changes.proofs.tag.Ground.holds_before.Goals as goal

pub returns-then-is_wall_in : goal.returns-then-is_wall_in
returns-then-is_wall_in c = grind (arith, near_wall, behind_below)

pub returns-then-e-place : goal.returns-then-e-place
returns-then-e-place c = grind (arith, near_here, behind_below, value_of_lem)

pub loop-j-preserved : goal.loop-j-preserved
loop-j-preserved c = grind (arith, near_past, behind_below)
