-- A starting value is refused or put into its cell; at the first line that is none the events are read. Assumes nothing.
use Rattle.std.proofs.Common.{◌≡◌, replicate, false, refl, sym, ◌∙◌, ap}
use Rattle.memory.specs.Memory.{empty}
use Rattle.text.specs.Line.{split_from}
use Rattle.trace.specs.Survey.{init_on, survey_inits, survey_events}
use Rattle.trace.proofs.Inits.{starting, left_none, left_other, init_stops, init_read}
use Rattle.trace.proofs.reading.survey_lines.Goals as goal
use Rattle.trace.proofs.reading.survey_lines.Goals.{in-Some+in_default-init_on, in_default}

pub loop-to-init : goal.loop-to-init
loop-to-init c = rw c.empty-start.ensures (starting _ _ _ _ _ c.requires)

pub returns-then-place-low : goal.returns-then-place-low
returns-then-place-low c =
    let its = ap init_on (sym c.record_of.ensures) ∙ (sym c.init_on.ensures ∙ c.in-Some-init_on.is) in
    rw c.new.ensures (refl, init_stops _ _ _ _ _ _ _ _ _ _ c.loop-to.invariant _ (sym c.next_line.ensures ∙ c.in-Some.is) _ _ its c.if-place-low.true)

pub loop-to-preserved : goal.loop-to-preserved
loop-to-preserved c =
    let its = ap init_on (sym c.record_of.ensures) ∙ (sym c.init_on.ensures ∙ c.in-Some-init_on.is) in
    init_read _ _ _ _ _ _ _ _ _ _ c.loop-to.invariant _ (sym c.next_line.ensures ∙ c.in-Some.is) _ _ its c.if-place-low.false _ c.index_of-cell.ensures

-- the events are what is left where no line is left, or the line has no starting value
left : (c : goal.After-survey_events)
    → survey_events c.args.listed.now c.args.form c.args.side c.loop-to.k c.loop-to.has c.loop-to.start (split_from c.args.text.now c.loop-to.at)
    ≡ survey_inits c.args.listed.now c.args.form c.args.side 2 0 (replicate 256 false) empty (split_from c.args.text.now c.args.from)
left c =
    elim c.match-next_line.branch [
      | in-Some+in_default-init_on w ↦
          left_other _ _ _ _ _ _ _ _ _ _ c.loop-to.invariant (sym c.next_line.ensures ∙ w.in-Some.is)
          (ap init_on (sym w.record_of.ensures) ∙ (sym w.init_on.ensures ∙ w.in_default-init_on.is))
      | in_default w ↦ left_none _ _ _ _ _ _ _ _ _ _ c.loop-to.invariant (sym c.next_line.ensures ∙ w.in_default.is)
    ]

pub returns : goal.returns
returns c = rw (sym (left c)) c.survey_events.ensures
