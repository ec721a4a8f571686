-- The first line of 0 for an untouched location is the first of those from the location at hand on.
use Rattle.std.proofs.Common.{◌≡◌, ◌≤◌, ◌+◌}
use Rattle.uses.proofs.Idle.{idles}
use Rattle.uses.proofs.cover.idle_fault.Given as goal

abbrev pub invariant-loop-l : goal.invariant-loop-l
invariant-loop-l l = record {
  few : l.line ≤ l.l + 2;
  same : idles l.fn.form l.ways l.side l.has l.cells 2 0 ≡ idles l.fn.form l.ways l.side l.has l.cells l.line l.l;
}
