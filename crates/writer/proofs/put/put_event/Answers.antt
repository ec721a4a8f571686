-- The parts of the line are put one after the other. Which of them are there the shape says, which is the kind's. Assumes nothing.
use Rattle.writer.proofs.Texts.{event_put}
use Rattle.writer.proofs.put.put_event.Goals as goal

pub returns : goal.returns
returns c =
    event_put c.args.form c.args.e _ c.shape_of-shape.ensures c.put_word-after_kind.ensures c.put_number_if-after_place.ensures
    c.put_order_if-after_order.ensures c.put_number_if-after_first.ensures c.put_number_if-after_second.ensures c.put_order_if-after_mark.ensures
    c.put_number_if-after_code.ensures c.put.ensures
