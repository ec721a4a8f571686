-- A store past the end changes nothing. Assumes nothing.
use Rattle.std.proofs.Common.{sym}
use Rattle.std.proofs.Math.Seq.{set_out}
use Rattle.matching.proofs.put.Goals as goal

pub returns-else-i-room : goal.returns-else-i-room
returns-else-i-room c = sym (set_out _ _ _ c.if-i-room.false)
