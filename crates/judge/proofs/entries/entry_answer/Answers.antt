-- An entry is passed where its event is gone or its number is within the target and new, and stops the pass otherwise. Assumes nothing.
use Rattle.std.proofs.Common.{sym, ◌∙◌, arith}
use Rattle.judge.proofs.Named.{passed_all, passed_gone, passed_named, passed_start, refused_again, refused_beyond}
use Rattle.judge.proofs.entries.entry_answer.Goals as goal
use Rattle.judge.proofs.entries.entry_answer.Goals.{then-targets-at-via-then-targets-at, then-targets-at-via-else-targets-at+then-has}

pub loop-i-init : goal.loop-i-init
loop-i-init c = passed_start c.args.entries.now c.args.targets c.none-marks.ensures

pub loop-i-preserved-then-is_gone : goal.loop-i-preserved-then-is_gone
loop-i-preserved-then-is_gone c = passed_gone c.loop-i.invariant c.loop-i-test.true (sym c.is_gone.ensures ∙ c.if-is_gone.true)

pub returns-then-targets-at : goal.returns-then-targets-at
returns-then-targets-at c =
    let g = sym c.is_gone.ensures ∙ c.if-is_gone.false in
    elim c.then-targets-at.branch [
      | then-targets-at-via-then-targets-at w ↦
          refused_beyond c.loop-i.invariant c.loop-i-test.true g (omega (arith, c.number_index-at.ensures)) c.new.ensures
      | then-targets-at-via-else-targets-at+then-has w ↦
          refused_again c.loop-i.invariant c.loop-i-test.true g (omega (arith, c.number_index-at.ensures)) c.requires.targets_le_event_limit
          (rw (← c.number_index-at.ensures) (sym w.has.ensures ∙ w.if-has.true)) c.new.ensures
    ]

pub loop-i-preserved : goal.loop-i-preserved
loop-i-preserved c =
    let g = sym c.is_gone.ensures ∙ c.if-is_gone.false in
    passed_named c.loop-i.invariant c.loop-i-test.true g (omega (arith, c.number_index-at.ensures)) c.requires.targets_le_event_limit
    (rw (← c.number_index-at.ensures) (sym c.has.ensures ∙ c.if-has.false)) (rw (← c.number_index-at.ensures) c.add.ensures)

pub returns : goal.returns
returns c = passed_all c.loop-i.invariant (omega arith)
