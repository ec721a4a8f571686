-- P1 to P12 of document 01, and the cases of C-13, C-15, C-16 and C-17: the check's own definition computes on their texts, and its answers are the
-- tables'. Assumes nothing.
use mathlib.Core.Path.{◌≡◌, refl}
use mathlib.Core.Bool.{true}
use Rattle.event.specs.Answer.{answer}
use Rattle.kinds.specs.Kind.{row, takes, lawful}
use Rattle.memory.specs.Memory.{stepped, after, latest}
use Rattle.text.specs.Cut.{cut}
use Rattle.text.specs.Number.{all_digits, value_on, digits_on, number_of}
use Rattle.text.specs.Word.{bytes, same_bytes}
use Rattle.record.specs.Layout.{number_in}
use Rattle.record.specs.Record.{number_if, order_if, event_by, event_rest, init_rest, unless_silent, record_of}
use Rattle.uses.specs.Cover.{lined}
use Rattle.trace.specs.Fault.{cover_fault}
use Rattle.uses.specs.Use.{uses}
use Rattle.uses.specs.Bad.{first_bad}
use Rattle.trace.specs.Fault.{event_fault_in}
use Rattle.trace.specs.Reading.{form_of, start_in, fault_in, survey_in, events_of, inits_of, read_in}
use Rattle.matching.specs.Entry.{keep_rest, gone_rest, entry_of}
use Rattle.frame.specs.Reading.{head_fault, lines_fault, text_fault}
use Rattle.matching.specs.Reading.{entries_of, survey_of as matching_survey, read_of as matching_read}
use Rattle.text.specs.Line.{said_in}
use Rattle.rules.specs.Verdict.{start_answer_in, count_answer, entry_answer, source_answer, target_answer, verdict_in}
use Rattle.registers.specs.Reg.{after_word, group_rest, reg_rest, reg_of}
use Rattle.registers.specs.Reading.{is_grouped, regs_of, marked, list_of}
use Rattle.checker.specs.Check.{Lent, reading_answer_in, verdict_for, check_in, check_of, check_listed}
use Rattle.checker.specs.Line.{counted, nth_line, line_of, fault_side, offending, offending_line, standing}
use Rattle.checker.specs.Cases.{table, counters, zeros, exchanges, registers, all_hold, all_listed}

cases : (all_hold table ≡ true)
    × ((all_hold counters ≡ true) × ((all_hold zeros ≡ true) × ((all_hold exchanges ≡ true) × (all_listed registers ≡ true))))
unfolding check_listed list_of is_grouped regs_of reg_of after_word group_rest reg_rest marked check_in reading_answer_in verdict_for verdict_in start_answer_in count_answer entry_answer
    source_answer target_answer read_in survey_in form_of fault_in text_fault head_fault lines_fault said_in start_in events_of inits_of cover_fault lined first_bad
    event_fault_in uses record_of event_by event_rest init_rest unless_silent number_if order_if number_in matching_read matching_survey entries_of entry_of keep_rest
    gone_rest number_of digits_on value_on all_digits cut same_bytes stepped after latest lawful takes row
cases = (refl, (refl, (refl, (refl, refl))))

pub P1_to_P12 : all_hold table ≡ true
P1_to_P12 = cases.0

pub counters_hold : all_hold counters ≡ true
counters_hold = cases.1.0

pub zeros_hold : all_hold zeros ≡ true
zeros_hold = cases.1.1.0

pub exchanges_hold : all_hold exchanges ≡ true
exchanges_hold = cases.1.1.1.0

pub registers_hold : all_listed registers ≡ true
registers_hold = cases.1.1.1.1

-- "A call without a list lists none", as a list of none does.
pub lists_none : (l : Lent) → check_listed (list_of 1 (bytes "regs\t1\n")) l ≡ check_of l
unfolding check_listed list_of is_grouped regs_of reg_of after_word group_rest reg_rest marked text_fault head_fault lines_fault said_in cut same_bytes
lists_none l = refl

-- The lines that the program prints for P10: of form 1, and of form 2 with its code line, against a target of form 1.
pub P10_lines :
    (offending_line (bytes "trace\t1\nstore\t1\t5\nunlock\t0\n") (bytes "trace\t1\nunlock\t0\nstore\t1\t5\n") (answer 12 1 2)
    ≡ bytes "unlock\t0")
    × (offending_line (bytes "trace\t2\nstore\t1\t5\t80\nunlock\t0\t81\n") (bytes "trace\t1\nunlock\t0\nstore\t1\t5\n") (answer 12 1 2)
    ≡ bytes "unlock\t0\t81")
unfolding offending fault_side form_of line_of nth_line standing counted record_of event_by event_rest init_rest number_if order_if number_in number_of
    digits_on value_on all_digits cut same_bytes lawful takes row
P10_lines = (refl, refl)
