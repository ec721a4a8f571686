-- The event before the index is seen as a wall, which begins the array anew, or as a plain event, which changes it at its location. Assumes nothing.
use Rattle.std.proofs.Common.{true, replicate, refl, sym, ◌∙◌, arith}
use lib.ListN.{length-set}
use Rattle.event.specs.Limit.{places}
use Rattle.rules.specs.View.{view_in}
use Rattle.fates.proofs.Closed.{closed_plain, closed_wall, passed_next, passed_start, place_below}
use Rattle.fates.proofs.Passes.{plain}
use Rattle.sight.proofs.Sight.{sees_in}
use Rattle.fates.proofs.source.closing_flags.Goals as goal

pub loop-i-init : goal.loop-i-init
loop-i-init c = passed_start c.args.listed.now c.args.source.now c.args.entries.now c.requires.entries_len

pub loop-i-preserved-then-is_wall_in : goal.loop-i-preserved-then-is_wall_in
loop-i-preserved-then-is_wall_in c =
    passed_next c.requires.entries_len c.requires.placed c.requires.source_bound
    c.loop-i.invariant c.loop-i-test.true c.loop-i.auto.i c.get-e.result c.get-e.ensures c.index_of-place.ensures (replicate places true) refl
    (closed_wall (view_in c.args.listed.now c.get-e.result) (sym c.is_wall_in.ensures ∙ c.if-is_wall_in.true) _ _)

pub loop-i-preserved : goal.loop-i-preserved
loop-i-preserved c =
    let p =
    place_below c.requires.entries_len c.requires.placed c.requires.source_bound
    c.loop-i.invariant c.loop-i-test.true c.loop-i.auto.i c.get-e.result c.get-e.ensures c.index_of-place.ensures in
    passed_next c.requires.entries_len c.requires.placed c.requires.source_bound
    c.loop-i.invariant c.loop-i-test.true c.loop-i.auto.i c.get-e.result c.get-e.ensures c.index_of-place.ensures _
    (simp length-set c.loop-i.invariant.cells_size)
    (closed_plain (plain (sees_in c.args.listed.now c.get-e.result) (sym c.is_wall_in.ensures ∙ c.if-is_wall_in.false)) _ _ c.loop-i.closing
    c.index_of-place.ensures p c.loop-i.invariant.cells_size c.loop-i.invariant.closed c.is_load_in.ensures c.closing_after.ensures)

pub returns : goal.returns
returns c = λ k h. c.loop-i.invariant.flagged k (omega arith) h
