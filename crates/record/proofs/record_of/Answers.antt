-- The first field is the line's word, which lies within the line, and the rest goes on after it. Assumes nothing.
use Rattle.std.proofs.Common.{sym, ap, ◌∙◌}
use Rattle.text.proofs.Fields.{fields_start, field_step, line_end}
use Rattle.record.specs.Record.{record_of, unless_silent}
use Rattle.record.proofs.record_of.Goals as goal

pub returns-in_default : goal.returns-in_default
unfolding record_of
returns-in_default c = rw (← fields_start _, line_end _ _ (sym c.field_of.ensures ∙ c.in_default.is))

pub returns-then-same_bytes : goal.returns-then-same_bytes
unfolding record_of
returns-then-same_bytes c =
    rw (← fields_start _, field_step _ _ _ (sym c.field_of.ensures ∙ c.in-Some.is), ← c.same_bytes.ensures, c.if-same_bytes.true)
    (c.unless_silent.ensures ∙ ap (unless_silent _) c.init_rest.ensures)

pub returns : goal.returns
unfolding record_of
returns c =
    rw (← fields_start _, field_step _ _ _ (sym c.field_of.ensures ∙ c.in-Some.is), ← c.same_bytes.ensures, c.if-same_bytes.false, ← c.kind_of.ensures)
    c.event_rest.ensures
