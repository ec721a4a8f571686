-- An event more: one that synchronises, or one to a location. Assumes nothing.
use Rattle.std.proofs.Common.{sym, ◌∙◌}
use Rattle.sight.proofs.Sight.{sees_in}
use Rattle.shorten.proofs.Walked.{walked_wall, walked_by}
use Rattle.shorten.proofs.Staying.{staying_start, staying_few, staying_next}
use Rattle.shorten.proofs.stay.stay_flags.Goals as goal

pub loop-event-init : goal.loop-event-init
loop-event-init c = staying_start c.args.listed.now c.args.text.now c.form_of-form.result c.line_two-at.result c.form_of-form.ensures c.line_two-at.ensures

pub loop-event-preserved-then-is_wall_in : goal.loop-event-preserved-then-is_wall_in
loop-event-preserved-then-is_wall_in c =
    let s = c.loop-event.invariant in
    let few = staying_few _ _ _ s c.in-Some.field-0 c.in-Some.ensures.1 c.requires in
    staying_next _ _ _ s c.in-Some.field-0 c.in-Some.ensures.1 (walked_wall s.walked few _ (sym c.is_wall_in.ensures ∙ c.if-is_wall_in.true))

pub loop-event-preserved : goal.loop-event-preserved
loop-event-preserved c =
    let s = c.loop-event.invariant in
    let few = staying_few _ _ _ s c.in-Some.field-0 c.in-Some.ensures.1 c.requires in
    staying_next _ _ _ s c.in-Some.field-0 c.in-Some.ensures.1
    (walked_by s.walked few (sees_in c.args.listed.now c.in-Some.field-0.event) (sym c.is_wall_in.ensures ∙ c.if-is_wall_in.false) c.in-Some.ensures.1.1.1.1
    c.index_of-place.ensures c.is_load_in-load.ensures c.overwritten.ensures c.unflag.ensures c.stays_at.ensures c.begun_after.ensures
    c.value_after.ensures c.last_after.ensures)
