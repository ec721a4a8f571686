-- Each answer is handed on if it refuses, and the next is asked if it does not. Assumes nothing.
use Rattle.std.proofs.Common.{rules}
use Rattle.judge.proofs.Order.{count_refuses, entries_refuse, sources_refuse, start_refuses, targets_told}
use Rattle.judge.proofs.refusal.Goals as goal

pub returns-in_err-start_answer : goal.returns-in_err-start_answer
returns-in_err-start_answer c =
    let told = start_refuses c.args.listed.now c.args.start.cells c.args.target_start.cells c.args.source.now c.args.target.now c.args.entries.now _ c.in_err-start_answer.ensures in
    search (rules, told)

pub returns-then-count-source : goal.returns-then-count-source
returns-then-count-source c = rw c.new.ensures (count_refuses _ _ _ _ _ _ c.in_ok-start_answer.ensures c.if-count-source.true)

pub returns-in_err-marks : goal.returns-in_err-marks
returns-in_err-marks c =
    let told = entries_refuse _ _ _ c.args.source.now c.args.target.now _ c.in_ok-start_answer.ensures c.if-count-source.false _ c.in_err-marks.ensures in
    search (rules, told)

pub returns-in_err-source_answer : goal.returns-in_err-source_answer
returns-in_err-source_answer c =
    let told = sources_refuse _ _ _ _ _ _ c.in_ok-start_answer.ensures c.if-count-source.false c.in_ok-marks.ensures.0 _ c.in_err-source_answer.ensures in
    search (rules, told)

pub returns : goal.returns
returns c =
    rw (targets_told _ _ _ _ _ _ c.in_ok-start_answer.ensures c.if-count-source.false c.in_ok-marks.ensures.0 c.in_ok-source_answer.ensures)
    (c.target_answer.ensures c.args.entries.now c.in_ok-marks.ensures.1)
