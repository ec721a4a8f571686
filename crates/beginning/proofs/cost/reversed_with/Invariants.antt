-- The pairs with the entries before the index are counted. Assumes nothing.
use Rattle.std.proofs.Common.{◌≡◌, ◌≤◌, ◌+◌}
use lib.ListN.{drop}
use Rattle.course.specs.Cost.{is_reversed, many}
use Rattle.beginning.proofs.cost.reversed_with.Given as goal

abbrev pub invariant-loop-next : goal.invariant-loop-next
invariant-loop-next l = record {
  few : l.pairs ≤ l.next-index;
  so_far : many (is_reversed l.number) l.later ≡ l.pairs + many (is_reversed l.number) (drop l.next-index l.later);
}
