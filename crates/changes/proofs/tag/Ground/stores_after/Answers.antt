-- An event ends the search as a wall or at the location, or is passed. Assumes nothing.
use Rattle.std.proofs.Common.{arith}
use Rattle.changes.proofs.Near.{near_wall, near_here, near_past, stores_of}
use Rattle.changes.proofs.Traces.{drop_at, drop_past}
use Rattle.changes.proofs.tag.Ground.stores_after.Goals as goal

pub returns-then-is_wall_in : goal.returns-then-is_wall_in
returns-then-is_wall_in c = grind (arith, near_wall, drop_at)

pub returns-then-e-place : goal.returns-then-e-place
returns-then-e-place c = grind (arith, near_here, drop_at, stores_of)

pub loop-tag-preserved : goal.loop-tag-preserved
loop-tag-preserved c = grind (arith, near_past, drop_at)

pub returns : goal.returns
returns c = grind (arith, drop_past)
