-- A TAB, and the line behind it. Assumes nothing.
use mathlib.Core.Path.{◌≡◌, ◌∙◌}
use native.Mathlib.Omega.{arith}
use lib.ListN.{length, replicate}
use Rattle.event.specs.Room.{event_at}
use Rattle.std.proofs.Common.{◌-◌}
use Rattle.text.proofs.Writes.{take_wrote}
use Rattle.writer.specs.Put.{bare_line}
use Rattle.files.proofs.Lines.{then, event_named, bare_short}
use Rattle.files.proofs.run.push_event.Goals as goal

pub returns : goal.returns
returns g c =
    let line = bare_line (event_at c.args.room.now (c.args.number - 1)) in
    let size : c.write_event-size.result ≡ length line = c.write_event-size.ensures.counted ∙ omega arith in
    let whole : c.front.result.now ≡ line =
    rw (c.front.ensures, size, c.write_event-size.ensures.stored)
    (take_wrote (replicate 64 0) line (omega (arith, bare_short (event_at c.args.room.now (c.args.number - 1))))) in
    rw (event_named c.args.room.now c.args.number c.if-number-eq0.false) (then _ _ _ _ c.push.ensures (rw whole at c.push-2.ensures))
