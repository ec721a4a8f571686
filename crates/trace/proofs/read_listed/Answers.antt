-- The list's answer, or what comes under the list. Assumes nothing.
use Rattle.std.proofs.Common.{sym, ◌∙◌, rules}
use Rattle.trace.proofs.Readings.{list_refused, list_read}
use Rattle.trace.proofs.read_listed.Goals as goal

pub returns-in_err-listed : goal.returns-in_err-listed
returns-in_err-listed c =
    let e = c.in_err-listed.ensures in
    let l = list_refused _ c.args.text.now c.args.room.now _ e.0 e.1 in
    (search (rules, e, l), l.1)

pub returns : goal.returns
returns c =
    let l = list_read _ c.args.text.now c.args.room.now _ c.in_ok-listed.ensures in
    (rw l.0 c.read_in.ensures.0, c.read_in.ensures.1 ∙ sym l.1)
