-- The first refusal, or 17 with the bytes needed, or the text. Assumes nothing.
use Rattle.std.proofs.Common.{refl}
use Rattle.writer.proofs.Answered.{write_small, write_short, write_done}
use Rattle.writer.proofs.Cells.{words_below}
use Rattle.writer.proofs.write_in.Goals as goal

pub size_of-size-requires : goal.size_of-size-requires
size_of-size-requires c =
    let g = c.well_formed.1.1.0.1.1.0 in
    write_small c.args.listed.now c.args.form c.args.memory c.args.room.now c.args.out.now g.1.0.1 (words_below c.args.memory.cells g.0 g.1.1)
    c.in_ok-write_fault.ensures _ c.count_of-n.ensures _ c.touch_all.ensures

pub returns-then-out-size : goal.returns-then-out-size
returns-then-out-size c =
    let g = c.well_formed.1.1.0.1.1.0 in
    let told =
    write_short c.args.listed.now c.args.form c.args.memory c.args.room.now c.args.out.now g.1.0.1 (words_below c.args.memory.cells g.0 g.1.1)
    c.in_ok-write_fault.ensures _ c.count_of-n.ensures _ c.touch_all.ensures (rw c.size_of-size.ensures at c.if-out-size.true) in
    rw (c.new.ensures, c.size_of-size.ensures) ((refl, told.0), told.1)

pub put_text-requires : goal.put_text-requires
put_text-requires c =
    let g = c.well_formed.1.1.0.1.1.0 in
    write_small c.args.listed.now c.args.form c.args.memory c.args.room.now c.args.out.now g.1.0.1 (words_below c.args.memory.cells g.0 g.1.1)
    c.in_ok-write_fault.ensures _ c.count_of-n.ensures _ c.touch_all.ensures

pub returns : goal.returns
returns c =
    let g = c.well_formed.1.1.0.1.1.0 in
    rw c.size_of-size.ensures
    (write_done c.args.listed.now c.args.form c.args.memory c.args.room.now c.args.out.now g.1.0.1 (words_below c.args.memory.cells g.0 g.1.1)
    c.in_ok-write_fault.ensures _ c.count_of-n.ensures _ c.touch_all.ensures (rw c.size_of-size.ensures at c.if-out-size.false) c.put_text.ensures)
