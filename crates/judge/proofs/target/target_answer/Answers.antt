-- An event is refused, or passed as a wall or as a plain event. Assumes nothing.
use Rattle.std.proofs.Common.{sym, ◌∙◌, arith}
use Rattle.judge.proofs.Sourced.{along_all, along_plain, along_start, along_stops, along_wall}
use Rattle.judge.proofs.target.target_answer.Goals as goal

pub loop-k-init : goal.loop-k-init
loop-k-init c = along_start c.args.listed.now c.args.target.now c.args.marks.now.words

pub returns-in-Some : goal.returns-in-Some
returns-in-Some c ns m =
    along_stops c.loop-k.invariant c.requires.placed c.requires.target_bound c.loop-k-test.true c.get-e.result c.get-e.ensures c.index_of-at.ensures
    c.has.ensures c.is_load_in.ensures c.is_unsupported-unsupported.ensures ns m c.in-Some.ensures c.new.ensures

pub loop-k-preserved-then-is_wall_in : goal.loop-k-preserved-then-is_wall_in
loop-k-preserved-then-is_wall_in c =
    along_wall c.loop-k.invariant c.requires.placed c.requires.target_bound c.loop-k-test.true c.get-e.result c.get-e.ensures c.index_of-at.ensures
    c.has.ensures c.is_load_in.ensures c.is_unsupported-unsupported.ensures c.in_default.ensures (sym c.is_wall_in.ensures ∙ c.if-is_wall_in.true)

pub loop-k-preserved : goal.loop-k-preserved
loop-k-preserved c =
    along_plain c.loop-k.invariant c.requires.placed c.requires.target_bound c.loop-k-test.true c.get-e.result c.get-e.ensures c.index_of-at.ensures
    c.has.ensures c.is_load_in.ensures c.is_unsupported-unsupported.ensures c.in_default.ensures (sym c.is_wall_in.ensures ∙ c.if-is_wall_in.false)

pub returns : goal.returns
returns c ns m = along_all c.loop-k.invariant (omega arith) ns m
