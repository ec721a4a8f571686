-- The first refusal, or 17 with the bytes needed, or the text. Assumes nothing.
use Rattle.std.proofs.Common.{refl}
use Rattle.writer.proofs.Answered.{move_small, move_short, move_done}
use Rattle.writer.proofs.moving.move_in.Goals as goal

pub moved_size-size-requires : goal.moved_size-size-requires
moved_size-size-requires c = move_small c.args.listed.now c.args.to c.args.text.now c.args.out.now _ _ c.in_ok-held.ensures _ c.touch_lines.ensures

pub returns-then-out-size : goal.returns-then-out-size
returns-then-out-size c =
    let told =
    move_short c.args.listed.now c.args.to c.args.text.now c.args.out.now _ _ c.in_ok-held.ensures _ c.touch_lines.ensures
    (rw c.moved_size-size.ensures at c.if-out-size.true) in
    rw (c.new.ensures, c.moved_size-size.ensures) ((refl, told.0), told.1)

pub put_moved-requires : goal.put_moved-requires
put_moved-requires c = move_small c.args.listed.now c.args.to c.args.text.now c.args.out.now _ _ c.in_ok-held.ensures _ c.touch_lines.ensures

pub returns : goal.returns
returns c =
    rw c.moved_size-size.ensures
    (move_done c.args.listed.now c.args.to c.args.text.now c.args.out.now _ _ c.in_ok-held.ensures _ c.touch_lines.ensures
    (rw c.moved_size-size.ensures at c.if-out-size.false) c.put_moved.ensures)
