-- A location is passed where its cells are equal or it is listed, and stops the pass otherwise. Assumes nothing.
use Rattle.std.proofs.Common.{arith}
use Rattle.judge.proofs.Cells.{passed_all, passed_equal, passed_listed, passed_stops}
use Rattle.judge.proofs.start.start_answer.Goals as goal
use Rattle.judge.proofs.start.start_answer.Goals.{else-start-at-via-then-start-at+else-not-listed-at, else-start-at-via-else-start-at}

pub returns-then-not-listed-at : goal.returns-then-not-listed-at
returns-then-not-listed-at c =
    passed_stops _ _ _ c.well_formed.1.0.1.1.0.1.0.1 c.well_formed.1.1.0.1.1.0.1.0.1 c.loop-at.at c.loop-at.invariant (omega arith)
    c.if-start-at.true c.if-not-listed-at.true c.new.ensures

pub loop-at-preserved : goal.loop-at-preserved
loop-at-preserved c =
    elim c.else-start-at.branch [
      | else-start-at-via-then-start-at+else-not-listed-at w ↦
          passed_listed _ _ _ c.well_formed.1.0.1.1.0.1.0.1 c.well_formed.1.1.0.1.1.0.1.0.1 c.loop-at.at c.loop-at.invariant (omega arith)
          w.if-not-listed-at.false
      | else-start-at-via-else-start-at w ↦
          passed_equal _ _ _ c.well_formed.1.0.1.1.0.1.0.1 c.well_formed.1.1.0.1.1.0.1.0.1 c.loop-at.at c.loop-at.invariant (omega arith)
          w.if-start-at.false
    ]

pub returns : goal.returns
returns c = passed_all _ _ _ c.well_formed.1.0.1.1.0.1.0.1 c.well_formed.1.1.0.1.1.0.1.0.1 c.loop-at.at c.loop-at.invariant (omega arith)
