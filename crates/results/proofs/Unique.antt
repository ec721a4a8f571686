-- One answer and one array to each contract of a public function, each over the contract itself. Assumes nothing.
use mathlib.Core.Path.{sym, ◌∙◌}
use Rattle.laws.specs.Unique.{OneAnswer, OneOf}
use Rattle.results.proofs.lay_trace.Reads as lay_trace
use Rattle.results.proofs.matching_numbers.Reads as matching_numbers
use Rattle.results.proofs.written_numbers.Reads as written_numbers
use Rattle.results.proofs.lay_check.Reads as lay_check
use Rattle.results.proofs.lay_start.Reads as lay_start
use Rattle.results.proofs.lay_applied.Reads as lay_applied
use Rattle.results.proofs.lay_span.Reads as lay_span
use Rattle.results.proofs.shortened_numbers.Reads as shortened_numbers
use Rattle.results.proofs.TraceReadFromResultHeldAnswer.from.Reads as trace_from
use Rattle.results.proofs.MatchingReadFromResultUsizeAnswer.from.Reads as matching_from
use Rattle.results.proofs.ShortSaidFromResultShortenedAnswer.from.Reads as short_from

lay_trace_result : OneOf lay_trace.Post (λ κ r s. s.1.1.0.now)
lay_trace_result κ a x y s t h k = h.0 ∙ sym k.0

lay_trace_memory : OneOf lay_trace.Post (λ κ r s. s.1.0.now)
lay_trace_memory κ a x y s t h k = h.1 ∙ sym k.1

matching_numbers_one : OneAnswer matching_numbers.Post
matching_numbers_one κ a x y s t h k = h ∙ sym k

written_numbers_one : OneAnswer written_numbers.Post
written_numbers_one κ a x y s t h k = h ∙ sym k

lay_check_result : OneOf lay_check.Post (λ κ r s. s.1.1.1.0.now)
lay_check_result κ a x y s t h k = h.0 ∙ sym k.0

lay_check_source : OneOf lay_check.Post (λ κ r s. s.1.0.now)
lay_check_source κ a x y s t h k = h.1.0 ∙ sym k.1.0

lay_check_target : OneOf lay_check.Post (λ κ r s. s.1.1.0.now)
lay_check_target κ a x y s t h k = h.1.1 ∙ sym k.1.1

lay_start_result : OneOf lay_start.Post (λ κ r s. s.1.1.0.now)
lay_start_result κ a x y s t h k = h.0 ∙ sym k.0

lay_start_run : OneOf lay_start.Post (λ κ r s. s.1.0.now)
lay_start_run κ a x y s t h k = h.1 ∙ sym k.1

lay_applied_one : OneAnswer lay_applied.Post
lay_applied_one κ a x y s t h k = h.0 ∙ sym k.0

lay_applied_run : OneOf lay_applied.Post (λ κ r s. s.1.0.now)
lay_applied_run κ a x y s t h k = h.1 ∙ sym k.1

lay_span_from : OneOf lay_span.Post (λ κ r s. s.1.0.now)
lay_span_from κ a x y s t h k = h.0 ∙ sym k.0

lay_span_to : OneOf lay_span.Post (λ κ r s. s.1.1.0.now)
lay_span_to κ a x y s t h k = h.1 ∙ sym k.1

shortened_numbers_one : OneAnswer shortened_numbers.Post
shortened_numbers_one κ a x y s t h k = h ∙ sym k

trace_from_one : OneAnswer trace_from.Post
trace_from_one κ a x y s t h k = h ∙ sym k

matching_from_one : OneAnswer matching_from.Post
matching_from_one κ a x y s t h k = h ∙ sym k

short_from_one : OneAnswer short_from.Post
short_from_one κ a x y s t h k = h ∙ sym k
