-- An event is refused, or passed as a wall or as a plain event. Assumes nothing.
use Rattle.std.proofs.Common.{sym, ◌∙◌, arith}
use Rattle.rules.specs.View.{view_in}
use Rattle.fates.proofs.Passes.{plain}
use Rattle.fates.proofs.Pass.{passed_all, passed_next, passed_start, passed_stops, place_below}
use Rattle.fates.proofs.Tallied.{tallied_plain, tallied_wall}
use Rattle.sight.proofs.Sight.{sees_in}
use Rattle.fates.proofs.source.source_pass.Goals as goal

pub loop-i-init : goal.loop-i-init
loop-i-init c = passed_start c.args.listed.now c.args.source.now c.args.target.now c.args.entries.now c.requires.entries_len

pub returns-in-Some : goal.returns-in-Some
returns-in-Some c =
    passed_stops c.requires.entries_len c.loop-i.invariant c.requires.placed c.loop-i-test.true c.get-e.result c.get-e.ensures c.index_of-at.ensures
    (c.requires.flagged c.loop-i.i (omega arith)) c.witness_here-witness.ensures c.in-Some.ensures c.new.ensures

pub loop-i-preserved-then-is_wall_in : goal.loop-i-preserved-then-is_wall_in
loop-i-preserved-then-is_wall_in c =
    passed_next c.requires.entries_len c.loop-i.invariant c.requires.placed c.loop-i-test.true c.get-e.result c.get-e.ensures c.index_of-at.ensures
    (c.requires.flagged c.loop-i.i (omega arith)) c.witness_here-witness.ensures c.in_default.ensures
    (tallied_wall _ c.loop-i.invariant.tallied (view_in c.args.listed.now c.get-e.result) (sym c.is_wall_in.ensures ∙ c.if-is_wall_in.true)
    c.top_after-all.ensures c.top_after-walls.ensures)

pub loop-i-preserved : goal.loop-i-preserved
loop-i-preserved c =
    let p =
    place_below c.requires.entries_len c.loop-i.invariant c.requires.placed c.loop-i-test.true c.get-e.result c.get-e.ensures c.index_of-at.ensures in
    let w = sym c.is_wall_in.ensures ∙ c.if-is_wall_in.false in
    passed_next c.requires.entries_len c.loop-i.invariant c.requires.placed c.loop-i-test.true c.get-e.result c.get-e.ensures c.index_of-at.ensures
    (c.requires.flagged c.loop-i.i (omega arith)) c.witness_here-witness.ensures c.in_default.ensures
    (tallied_plain _ c.loop-i.invariant.tallied (plain (sees_in c.args.listed.now c.get-e.result) w) w c.index_of-at.ensures p
    c.top_after-all.ensures c.top_after.ensures c.witness_after.result
    (rw (← c.witness_here-witness.ensures, ← c.is_load_in.ensures, ← c.takes_over-over.ensures) c.witness_after.ensures))

pub returns : goal.returns
returns c = passed_all c.requires.entries_len c.loop-i.invariant (omega arith)
