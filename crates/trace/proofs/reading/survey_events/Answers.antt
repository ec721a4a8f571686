-- Each way out is the definition's at what was read so far, and a line more is one event more. Assumes nothing.
use Rattle.std.proofs.Common.{Some, refl, sym, ◌∙◌, ap, arith, rules}
use borrow.Author.Tests.{lt-ltb, le-leb}
use Rattle.trace.proofs.Inits.{line_place}
use Rattle.trace.proofs.Turns.{reading_start, line_stops, line_open, event_read, ends_bare, ends_idle, ends_found, ends_read}
use Rattle.trace.proofs.reading.survey_events.Goals as goal

pub loop-to-init : goal.loop-to-init
loop-to-init c = reading_start _ _ _ _ _ _ _ _ c.requires.line_le_from c.requires.from_nonzero

pub returns-in-None : goal.returns-in-None
returns-in-None c =
    rw c.new.ensures
    (line_stops _ _ _ _ _ _ _ _ _ _ _ _ _ _ _ c.loop-to.invariant (sym c.next_line.ensures ∙ c.in-Some.is) 2 refl (rw (sym c.record_of.ensures ∙ c.in-None.is)))

pub returns-in-Some-Init : goal.returns-in-Some-Init
returns-in-Some-Init c =
    let its = sym c.record_of.ensures ∙ (c.in-Some-Init.is ∙ ap Some c.in-Some-Init.field-0-is) in
    rw c.new-in-Some-Init.ensures
    (line_stops _ _ _ _ _ _ _ _ _ _ _ _ _ _ _ c.loop-to.invariant (sym c.next_line.ensures ∙ c.in-Some.is) 4 refl (rw (its, lt-ltb _ _ (line_place _ _ _ _ its))))

pub returns-then-n-ge-EVENT_LIMIT : goal.returns-then-n-ge-EVENT_LIMIT
returns-then-n-ge-EVENT_LIMIT c =
    let its = sym c.record_of.ensures ∙ (c.in-Some-AnEvent.is ∙ ap Some c.in-Some-AnEvent.field-0-is) in
    rw c.new-then-n-ge-EVENT_LIMIT.ensures
    (line_stops _ _ _ _ _ _ _ _ _ _ _ _ _ _ _ c.loop-to.invariant (sym c.next_line.ensures ∙ c.in-Some.is) 3 refl (rw (its, le-leb _ _ c.if-n-ge-EVENT_LIMIT.true)))

pub loop-to-preserved : goal.loop-to-preserved
loop-to-preserved c =
    let its = sym c.record_of.ensures ∙ (c.in-Some-AnEvent.is ∙ ap Some c.in-Some-AnEvent.field-0-is) in
    let read =
    event_read _ _ _ _ _ _ _ _ _ _ _ _ _ _ _ c.loop-to.invariant _ (sym c.next_line.ensures ∙ c.in-Some.is) _ its (omega (arith, c.if-n-ge-EVENT_LIMIT.false)) (search rules)
    _ c.use_listed-clash.ensures.0 _ c.use_listed-clash.ensures.1 _ c.step-last.ensures _ c.is_right.ensures in
    rw (c.bare_fault-bare.ensures, c.fault_at-found.ensures) read

pub returns-then-at-text : goal.returns-then-at-text
returns-then-at-text c =
    rw c.new-then-at-text.ensures
    (refl, line_open _ _ _ _ _ _ _ _ _ _ _ _ _ _ _ c.loop-to.invariant (sym c.next_line.ensures ∙ c.in_default.is) c.if-at-text.true)

pub returns-in_err-bare : goal.returns-in_err-bare
returns-in_err-bare c =
    let end = ends_bare _ _ _ _ _ _ _ _ _ _ _ _ _ _ _ c.loop-to.invariant c.if-at-text.false _ c.in_err-bare.was in
    search (rules, end)

pub returns-in_err-idle_fault : goal.returns-in_err-idle_fault
returns-in_err-idle_fault c =
    let end = ends_idle _ _ _ _ _ _ _ _ _ _ _ _ _ _ _ c.loop-to.invariant c.if-at-text.false c.in_ok-bare.was _ c.idle_fault.ensures _ c.in_err-idle_fault.was in
    search (rules, end)

pub returns-in_err-found : goal.returns-in_err-found
returns-in_err-found c =
    let end =
    ends_found _ _ _ _ _ _ _ _ _ _ _ _ _ _ _ c.loop-to.invariant c.if-at-text.false c.in_ok-bare.was _ c.idle_fault.ensures c.in_ok-idle_fault.was _ c.in_err-found.was in
    search (rules, end)

pub returns : goal.returns
returns c =
    ends_read _ _ _ _ _ _ _ _ _ _ _ _ _ _ _ c.loop-to.invariant c.if-at-text.false c.in_ok-bare.was _ c.idle_fault.ensures c.in_ok-idle_fault.was c.in_ok-found.was
