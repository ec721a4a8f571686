-- A line is refused, or what is known after it is what the definition says. Assumes nothing.
use Rattle.std.proofs.Common.{refl, sym, ◌∙◌, ap, rules, arith, eq-eqb, ne_eqb}
use Rattle.text.specs.Line.{said_in}
use Rattle.frame.proofs.Tries.{tried_open, tried_end}
use Rattle.registers.specs.Reading.{regs_fault, marked}
use Rattle.registers.specs.Lines.{marked_for}
use Rattle.registers.proofs.Turns.{fault_over, line_refused, line_read}
use Rattle.registers.proofs.read_lines.Goals as goal

pub returns-in_default-reg_of : goal.returns-in_default-reg_of
returns-in_default-reg_of c =
    line_refused _ c.loop-to.invariant (sym c.next_line.ensures ∙ c.in-Some.is) 2 refl (rw (sym c.reg_of.ensures ∙ c.in_default-reg_of.is)) _ c.new.ensures

pub returns-then-is_refused : goal.returns-then-is_refused
returns-then-is_refused c =
    let over = fault_over _ _ c.in-Some-reg_of.register _ c.index_of-own.ensures (sym c.is_refused.ensures ∙ c.if-is_refused.true) in
    let fault = ap (regs_fault _) (sym c.reg_of.ensures ∙ c.in-Some-reg_of.is) ∙ over in
    let stop = line_refused _ c.loop-to.invariant (sym c.next_line.ensures ∙ c.in-Some.is) 22 refl fault in
    search (rules, stop)

pub loop-to-preserved : goal.loop-to-preserved
unfolding marked_for
loop-to-preserved c =
    line_read _ _ _ _ _ _ c.loop-to.invariant (sym c.next_line.ensures ∙ c.in-Some.is) c.in-Some-reg_of.register (sym c.reg_of.ensures ∙ c.in-Some-reg_of.is) _
    c.index_of-own.ensures (sym c.is_refused.ensures ∙ c.if-is_refused.false) _ (grind (rules, arith, eq-eqb, ne_eqb))

pub returns-then-at-text : goal.returns-then-at-text
returns-then-at-text c =
    let stop = tried_open c.loop-to.invariant refl (sym c.next_line.ensures ∙ c.in_default.is) c.if-at-text.true c.new-then-at-text.ensures in
    (rw c.new-then-at-text.ensures, stop)

pub returns : goal.returns
unfolding said_in marked
returns c = sym (tried_end c.loop-to.invariant c.if-at-text.false refl refl)
