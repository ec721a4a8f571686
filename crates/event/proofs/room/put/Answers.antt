-- Six stores in a row are the room with the event put, where it fits. Assumes nothing.
use Prim.Native.Nat.{◌*◌}
use native.Mathlib.Omega.{arith}
use borrow.Author.Tests.{lt-ltb, le-ltb}
use Rattle.event.specs.Room.{put_at}
use Rattle.event.proofs.Rooms.{six_stores}
use Rattle.event.proofs.room.put.Goals as goal

pub returns-then-room-i : goal.returns-then-room-i
unfolding put_at
returns-then-room-i c = rw (le-ltb _ _ c.if-room-i.true)

pub returns : goal.returns
unfolding put_at
returns c = rw (lt-ltb _ _ c.if-room-i.false) (six_stores c.args.room.now (c.args.i * 6) _ _ _ _ _ _ (omega arith))
