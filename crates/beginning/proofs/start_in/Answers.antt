-- The check's answer says whether a run begins; what it read says how many events and entries there are. Assumes nothing.
use Rattle.std.proofs.Common.{arith, sym}
use lib.Seq.{length-take-le}
use Rattle.beginning.proofs.Begun.{accepts, entries_fewer, entries_fit, source_fits, target_fits}
use Rattle.beginning.proofs.start_in.Goals as goal

pub fill-requires : goal.fill-requires
fill-requires c = let f = source_fits _ _ _ c.check_in-checked.ensures c.if-checked-ne0.false in omega (arith, f)

pub slice_bounds-cost_of-end : goal.slice_bounds-cost_of-end
slice_bounds-cost_of-end c = entries_fit _ _ _ c.check_in-checked.ensures c.if-checked-ne0.false

pub slice_bounds-cost_of-end-2 : goal.slice_bounds-cost_of-end-2
slice_bounds-cost_of-end-2 c = sym (length-take-le _ _ (entries_fit _ _ _ c.check_in-checked.ensures c.if-checked-ne0.false))

pub cost_of-cost-requires : goal.cost_of-cost-requires
cost_of-cost-requires c = record {
  entries_len_bound = entries_fewer _ _ _ c.check_in-checked.ensures c.if-checked-ne0.false;
  targets_le_event_limit = target_fits _ _ _ c.check_in-checked.ensures c.if-checked-ne0.false;
}

pub returns : goal.returns
returns c = accepts _ _ _ c.check_in-checked.ensures c.if-checked-ne0.false _ c.cost_of-cost.result c.fill.ensures c.cost_of-cost.ensures
