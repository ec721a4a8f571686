-- Each line is the one that is sought or is passed; what stands after the last LF is the last. Assumes nothing.
use Rattle.std.proofs.Common.{arith}
use Rattle.checker.proofs.Lines.{none_sought, sought_start, sought_found, sought_passed, sought_last, sought_none}
use Rattle.checker.proofs.line.span_of.Goals as goal

pub returns-then-k-eq0-clause-spans : goal.returns-then-k-eq0-clause-spans
returns-then-k-eq0-clause-spans c = rw c.if-k-eq0.true (none_sought _ _).0

pub returns-then-k-eq0-clause-value : goal.returns-then-k-eq0-clause-value
returns-then-k-eq0-clause-value c = rw c.if-k-eq0.true (none_sought _ _).1

pub loop-to-init : goal.loop-to-init
loop-to-init c = sought_start _ _ _ (omega arith)

pub returns-then-ends_here-clause-spans : goal.returns-then-ends_here-clause-spans
returns-then-ends_here-clause-spans c =
    (sought_found _ _ _ _ _ c.loop-to.invariant c.next_line.ensures c.form_of-form.ensures
    c.in-Some.is c.is_counted-hit.ensures c.ends_here.ensures c.if-ends_here.true).0

pub returns-then-ends_here-clause-value : goal.returns-then-ends_here-clause-value
returns-then-ends_here-clause-value c =
    (sought_found _ _ _ _ _ c.loop-to.invariant c.next_line.ensures c.form_of-form.ensures
    c.in-Some.is c.is_counted-hit.ensures c.ends_here.ensures c.if-ends_here.true).1

pub loop-to-preserved : goal.loop-to-preserved
loop-to-preserved c =
    rw c.left_after-left.ensures
    (sought_passed _ _ _ _ _ c.loop-to.invariant c.next_line.ensures c.form_of-form.ensures
    c.in-Some.is c.is_counted-hit.ensures c.ends_here.ensures c.if-ends_here.false)

pub returns-then-ends_here-2-clause-spans : goal.returns-then-ends_here-2-clause-spans
returns-then-ends_here-2-clause-spans c =
    (sought_last _ _ _ _ _ c.loop-to.invariant c.next_line.ensures c.form_of-form.ensures
    c.in_default.is c.is_counted-rest.ensures c.ends_here-2.ensures c.if-ends_here-2.true).0

pub returns-then-ends_here-2-clause-value : goal.returns-then-ends_here-2-clause-value
returns-then-ends_here-2-clause-value c =
    (sought_last _ _ _ _ _ c.loop-to.invariant c.next_line.ensures c.form_of-form.ensures
    c.in_default.is c.is_counted-rest.ensures c.ends_here-2.ensures c.if-ends_here-2.true).1

pub returns-clause-spans : goal.returns-clause-spans
returns-clause-spans c =
    (sought_none _ _ _ _ _ c.loop-to.invariant c.next_line.ensures c.form_of-form.ensures
    c.in_default.is c.is_counted-rest.ensures c.ends_here-2.ensures c.if-ends_here-2.false).0

pub returns-clause-value : goal.returns-clause-value
returns-clause-value c =
    (sought_none _ _ _ _ _ c.loop-to.invariant c.next_line.ensures c.form_of-form.ensures
    c.in_default.is c.is_counted-rest.ensures c.ends_here-2.ensures c.if-ends_here-2.false).1
