-- One answer and one room to each contract of a public function, each over the contract itself. Assumes nothing.
use mathlib.Core.Path.{ap, sym, ◌∙◌}
use Rattle.checker.specs.declared.line.Span.{Span}
use Rattle.laws.specs.Unique.{OneAnswer, OneOf}
use Rattle.export.proofs.short.laprunto_shorten.Reads as shorten
use Rattle.export.proofs.short.laprunto_shorten_listed.Reads as shorten_listed
use Rattle.export.proofs.laprunto_read_trace.Reads as read_trace
use Rattle.export.proofs.laprunto_read_matching.Reads as read_matching
use Rattle.export.proofs.laprunto_trace_form.Reads as trace_form
use Rattle.export.proofs.laprunto_write_trace.Reads as write_trace
use Rattle.export.proofs.laprunto_move_trace.Reads as move_trace
use Rattle.export.proofs.laprunto_check.Reads as check
use Rattle.export.proofs.laprunto_offending_line.Reads as offending_line
use Rattle.export.proofs.listed.laprunto_read_list.Reads as read_list
use Rattle.export.proofs.listed.laprunto_read_trace_listed.Reads as read_trace_listed
use Rattle.export.proofs.listed.laprunto_write_trace_listed.Reads as write_trace_listed
use Rattle.export.proofs.listed.laprunto_move_trace_listed.Reads as move_trace_listed
use Rattle.export.proofs.listed.laprunto_check_listed.Reads as check_listed
use Rattle.export.proofs.listed.laprunto_start_listed.Reads as start_listed
use Rattle.export.proofs.listed.laprunto_next_listed.Reads as next_listed
use Rattle.export.proofs.listed.laprunto_apply_listed.Reads as apply_listed
use Rattle.export.proofs.run.laprunto_start.Reads as start
use Rattle.export.proofs.run.laprunto_next.Reads as next
use Rattle.export.proofs.run.laprunto_apply.Reads as apply

read_trace_result : OneOf read_trace.Post (λ κ r s. s.1.1.1.0.now)
read_trace_result κ a x y s t h k = h.0 ∙ sym k.0

read_trace_memory : OneOf read_trace.Post (λ κ r s. s.1.1.0.now)
read_trace_memory κ a x y s t h k = h.1.0 ∙ sym k.1.0

read_trace_room : OneOf read_trace.Post (λ κ r s. s.1.0.now)
read_trace_room κ a x y s t h k = h.1.1 ∙ sym k.1.1

read_matching_result : OneOf read_matching.Post (λ κ r s. s.1.1.0.now)
read_matching_result κ a x y s t h k = h.0 ∙ sym k.0

read_matching_room : OneOf read_matching.Post (λ κ r s. s.1.0.now)
read_matching_room κ a x y s t h k = h.1 ∙ sym k.1

trace_form_number : OneAnswer trace_form.Post
trace_form_number κ a x y s t h k = h ∙ sym k

write_trace_result : OneOf write_trace.Post (λ κ r s. s.1.1.1.1.0.now)
write_trace_result κ a x y s t h k = h.0 ∙ sym k.0

write_trace_bytes : OneOf write_trace.Post (λ κ r s. s.1.1.1.0.now)
write_trace_bytes κ a x y s t h k = h.1 ∙ sym k.1

move_trace_result : OneOf move_trace.Post (λ κ r s. s.1.1.1.0.now)
move_trace_result κ a x y s t h k = h.0 ∙ sym k.0

move_trace_bytes : OneOf move_trace.Post (λ κ r s. s.1.1.0.now)
move_trace_bytes κ a x y s t h k = h.1 ∙ sym k.1

check_result : OneOf check.Post (λ κ r s. s.1.1.1.1.1.1.1.1.0.now)
check_result κ a x y s t h k = h.numbers ∙ sym k.numbers

check_source_memory : OneOf check.Post (λ κ r s. s.1.1.1.1.1.1.0.now)
check_source_memory κ a x y s t h k = h.source_start_of ∙ sym k.source_start_of

check_target_memory : OneOf check.Post (λ κ r s. s.1.1.1.1.1.1.1.0.now)
check_target_memory κ a x y s t h k = h.target_start_of ∙ sym k.target_start_of

check_source_room : OneOf check.Post (λ κ r s. s.1.1.1.0.now)
check_source_room κ a x y s t h k = h.source_events_of ∙ sym k.source_events_of

check_target_room : OneOf check.Post (λ κ r s. s.1.1.1.1.0.now)
check_target_room κ a x y s t h k = h.target_events_of ∙ sym k.target_events_of

check_entry_room : OneOf check.Post (λ κ r s. s.1.1.1.1.1.0.now)
check_entry_room κ a x y s t h k = h.entries ∙ sym k.entries

offending_line_from : OneOf offending_line.Post (λ κ r s. s.1.1.1.1.1.0.now)
offending_line_from κ a x y s t h k = ap (λ (p : Span). p.from) (h.1 ∙ sym k.1)

offending_line_to : OneOf offending_line.Post (λ κ r s. s.1.1.1.1.1.1.0.now)
offending_line_to κ a x y s t h k = ap (λ (p : Span). p.to) (h.1 ∙ sym k.1)

read_list_result : OneOf read_list.Post (λ κ r s. s.1.1.0.now)
read_list_result κ a x y s t h k = h.0 ∙ sym k.0

read_list_marks : OneOf read_list.Post (λ κ r s. s.1.1.1.0.now)
read_list_marks κ a x y s t h k = h.1 ∙ sym k.1

read_trace_listed_result : OneOf read_trace_listed.Post (λ κ r s. s.1.1.1.1.1.0.now)
read_trace_listed_result κ a x y s t h k = h.0 ∙ sym k.0

read_trace_listed_memory : OneOf read_trace_listed.Post (λ κ r s. s.1.1.1.1.0.now)
read_trace_listed_memory κ a x y s t h k = h.1.0 ∙ sym k.1.0

read_trace_listed_room : OneOf read_trace_listed.Post (λ κ r s. s.1.1.1.0.now)
read_trace_listed_room κ a x y s t h k = h.1.1 ∙ sym k.1.1

write_trace_listed_result : OneOf write_trace_listed.Post (λ κ r s. s.1.1.1.1.1.1.0.now)
write_trace_listed_result κ a x y s t h k = h.0 ∙ sym k.0

write_trace_listed_bytes : OneOf write_trace_listed.Post (λ κ r s. s.1.1.1.1.1.0.now)
write_trace_listed_bytes κ a x y s t h k = h.1 ∙ sym k.1

move_trace_listed_result : OneOf move_trace_listed.Post (λ κ r s. s.1.1.1.1.1.0.now)
move_trace_listed_result κ a x y s t h k = h.0 ∙ sym k.0

move_trace_listed_bytes : OneOf move_trace_listed.Post (λ κ r s. s.1.1.1.1.0.now)
move_trace_listed_bytes κ a x y s t h k = h.1 ∙ sym k.1

check_listed_result : OneOf check_listed.Post (λ κ r s. s.1.1.1.1.1.1.1.1.1.1.0.now)
check_listed_result κ a x y s t h k = h.numbers ∙ sym k.numbers

check_listed_source_memory : OneOf check_listed.Post (λ κ r s. s.1.1.1.1.1.1.1.1.0.now)
check_listed_source_memory κ a x y s t h k = h.source_start_of ∙ sym k.source_start_of

check_listed_target_memory : OneOf check_listed.Post (λ κ r s. s.1.1.1.1.1.1.1.1.1.0.now)
check_listed_target_memory κ a x y s t h k = h.target_start_of ∙ sym k.target_start_of

check_listed_source_room : OneOf check_listed.Post (λ κ r s. s.1.1.1.1.1.0.now)
check_listed_source_room κ a x y s t h k = h.source_events_of ∙ sym k.source_events_of

check_listed_target_room : OneOf check_listed.Post (λ κ r s. s.1.1.1.1.1.1.0.now)
check_listed_target_room κ a x y s t h k = h.target_events_of ∙ sym k.target_events_of

check_listed_entry_room : OneOf check_listed.Post (λ κ r s. s.1.1.1.1.1.1.1.0.now)
check_listed_entry_room κ a x y s t h k = h.entries ∙ sym k.entries

start_result : OneOf start.Post (λ κ r s. s.1.1.1.1.1.1.1.1.0.now)
start_result κ a x y s t h k = h.numbers ∙ sym k.numbers

start_run : OneOf start.Post (λ κ r s. s.1.1.1.1.1.1.1.0.now)
start_run κ a x y s t h k = h.begun ∙ sym k.begun

start_source_room : OneOf start.Post (λ κ r s. s.1.1.1.0.now)
start_source_room κ a x y s t h k = h.source_events_of ∙ sym k.source_events_of

start_target_room : OneOf start.Post (λ κ r s. s.1.1.1.1.0.now)
start_target_room κ a x y s t h k = h.target_events_of ∙ sym k.target_events_of

start_entry_room : OneOf start.Post (λ κ r s. s.1.1.1.1.1.0.now)
start_entry_room κ a x y s t h k = h.entries ∙ sym k.entries

start_tags : OneOf start.Post (λ κ r s. s.1.1.1.1.1.1.0.now)
start_tags κ a x y s t h k = h.left ∙ sym k.left

next_step_lem : OneOf next.Post (λ κ r s. s.1.1.1.1.1.1.0.now)
next_step_lem κ a x y s t h k = h ∙ sym k

apply_one : OneAnswer apply.Post
apply_one κ a x y s t h k = h.answer ∙ sym k.answer

apply_run : OneOf apply.Post (λ κ r s. s.0.now)
apply_run κ a x y s t h k = h.standing ∙ sym k.standing

apply_tags : OneOf apply.Post (λ κ r s. s.1.0.now)
apply_tags κ a x y s t h k = h.left ∙ sym k.left

start_listed_result : OneOf start_listed.Post (λ κ r s. s.1.1.1.1.1.1.1.1.1.1.0.now)
start_listed_result κ a x y s t h k = h.numbers ∙ sym k.numbers

start_listed_run : OneOf start_listed.Post (λ κ r s. s.1.1.1.1.1.1.1.1.1.0.now)
start_listed_run κ a x y s t h k = h.begun ∙ sym k.begun

start_listed_source_room : OneOf start_listed.Post (λ κ r s. s.1.1.1.1.1.0.now)
start_listed_source_room κ a x y s t h k = h.source_events_of ∙ sym k.source_events_of

start_listed_target_room : OneOf start_listed.Post (λ κ r s. s.1.1.1.1.1.1.0.now)
start_listed_target_room κ a x y s t h k = h.target_events_of ∙ sym k.target_events_of

start_listed_entry_room : OneOf start_listed.Post (λ κ r s. s.1.1.1.1.1.1.1.0.now)
start_listed_entry_room κ a x y s t h k = h.entries ∙ sym k.entries

start_listed_tags : OneOf start_listed.Post (λ κ r s. s.1.1.1.1.1.1.1.1.0.now)
start_listed_tags κ a x y s t h k = h.left ∙ sym k.left

next_listed_step : OneOf next_listed.Post (λ κ r s. s.1.1.1.1.1.1.1.0.now)
next_listed_step κ a x y s t h k = h ∙ sym k

apply_listed_one : OneAnswer apply_listed.Post
apply_listed_one κ a x y s t h k = h.answer ∙ sym k.answer

apply_listed_run : OneOf apply_listed.Post (λ κ r s. s.1.0.now)
apply_listed_run κ a x y s t h k = h.standing ∙ sym k.standing

apply_listed_tags : OneOf apply_listed.Post (λ κ r s. s.1.1.0.now)
apply_listed_tags κ a x y s t h k = h.left ∙ sym k.left

shorten_result : OneOf shorten.Post (λ κ r s. s.1.1.1.0.now)
shorten_result κ a x y s t h k = h.numbers ∙ sym k.numbers

shorten_text : OneOf shorten.Post (λ κ r s. s.1.0.now)
shorten_text κ a x y s t h k = h.shortened ∙ sym k.shortened

shorten_matching : OneOf shorten.Post (λ κ r s. s.1.1.0.now)
shorten_matching κ a x y s t h k = h.matched ∙ sym k.matched

shorten_listed_result : OneOf shorten_listed.Post (λ κ r s. s.1.1.1.1.1.0.now)
shorten_listed_result κ a x y s t h k = h.numbers ∙ sym k.numbers

shorten_listed_text : OneOf shorten_listed.Post (λ κ r s. s.1.1.1.0.now)
shorten_listed_text κ a x y s t h k = h.shortened ∙ sym k.shortened

shorten_listed_matching : OneOf shorten_listed.Post (λ κ r s. s.1.1.1.1.0.now)
shorten_listed_matching κ a x y s t h k = h.matched ∙ sym k.matched
