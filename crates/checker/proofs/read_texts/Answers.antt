-- The texts before the one that refuses do not. Assumes nothing.
use Rattle.std.proofs.Common.{rules}
use Rattle.trace.specs.Reading.{read_in}
use Rattle.matching.specs.Reading.{read_of}
use Rattle.checker.specs.Check.{lent}
use Rattle.checker.proofs.Answers.{by_target, by_entries}
use Rattle.checker.proofs.read_texts.Goals as goal

pub returns-in_err-t : goal.returns-in_err-t
unfolding read_in
returns-in_err-t c =
    let a = c.args in
    let l = lent a.source.now a.target.now a.matching.now a.source_room.now a.target_room.now a.entry_room.now in
    search (rules, by_target a.listed.now l _ _ c.in_ok-s.ensures)

pub returns-in_err-entries : goal.returns-in_err-entries
unfolding read_in read_of
returns-in_err-entries c =
    let a = c.args in
    let l = lent a.source.now a.target.now a.matching.now a.source_room.now a.target_room.now a.entry_room.now in
    search (rules, by_entries a.listed.now l _ _ c.in_ok-s.ensures _ _ c.in_ok-t.ensures)
