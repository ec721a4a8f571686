-- A line is refused, or there is one entry more. Assumes nothing.
use Rattle.std.specs.Prelude.{is_none}
use Rattle.std.proofs.Common.{true, false, ◌≡◌, ◌+◌, refl, sym, ◌∙◌, rules, arith}
use Rattle.text.specs.Line.{said_in}
use Rattle.frame.proofs.Tries.{tried_open, tried_end}
use Rattle.matching.proofs.Turns.{fault_none, fault_many, line_refused, line_read}
use Rattle.matching.proofs.survey_lines.Goals as goal

pub returns-then-is_none : goal.returns-then-is_none
returns-then-is_none c =
    let none : is_none c.entry_of.result ≡ true = search rules in
    let stop = line_refused c.loop-to.invariant (sym c.next_line.ensures ∙ c.in-Some.is) 2 refl (fault_none _ _ (rw c.entry_of.ensures at none)) in
    search (rules, stop)

pub returns-then-is_full : goal.returns-then-is_full
returns-then-is_full c =
    let some : is_none c.entry_of.result ≡ false = search rules in
    let many = fault_many c.loop-to.n _ (rw c.entry_of.ensures at some) (sym c.is_full.ensures ∙ c.if-is_full.true) in
    let stop = line_refused c.loop-to.invariant (sym c.next_line.ensures ∙ c.in-Some.is) 3 refl many in
    search (rules, stop)

pub loop-to-preserved : goal.loop-to-preserved
loop-to-preserved c =
    let some : is_none c.entry_of.result ≡ false = search rules in
    line_read _ c.loop-to.invariant (sym c.next_line.ensures ∙ c.in-Some.is) (rw c.entry_of.ensures at some)
    (sym c.is_full.ensures ∙ c.if-is_full.false)

pub returns-then-at-text : goal.returns-then-at-text
returns-then-at-text c =
    let stop = tried_open c.loop-to.invariant refl (sym c.next_line.ensures ∙ c.in_default.is) c.if-at-text.true c.new-then-at-text.ensures in
    (rw c.new-then-at-text.ensures, stop)

pub returns : goal.returns
unfolding said_in
returns c =
    let z : c.loop-to.n + 0 ≡ c.loop-to.n = omega arith in
    sym (tried_end c.loop-to.invariant c.if-at-text.false (rw z) (rw z))
