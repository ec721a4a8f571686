-- The survey decides, and only then anything is stored. Assumes nothing.
use Rattle.std.proofs.Common.{◌∙◌, rules}
use Rattle.trace.proofs.Readings.{read_is, room_kept, room_filled}
use Rattle.trace.proofs.read_in.Goals as goal

pub returns-in_err-held : goal.returns-in_err-held
returns-in_err-held c =
    let e = c.in_err-held.ensures in
    (let told = e.1 ∙ read_is _ _ _ _ in search (rules, e, told), room_kept _ _ _ _ _ e.0 e.1)

pub returns : goal.returns
returns c = (c.in_ok-held.ensures ∙ read_is _ _ _ _, c.store.ensures ∙ room_filled _ _ _ _ _ _ c.in_ok-held.ensures)
