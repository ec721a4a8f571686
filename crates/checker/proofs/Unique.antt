-- One answer and one room to each contract of a public function, each over the contract itself. Assumes nothing.
use mathlib.Core.Path.{sym, ◌∙◌}
use Rattle.laws.specs.Unique.{OneAnswer, OneOf}
use Rattle.checker.proofs.check.Reads as check
use Rattle.checker.proofs.check_in.Reads as check_in
use Rattle.checker.proofs.check_listed.Reads as check_listed
use Rattle.checker.proofs.refusal.Reads as refusal
use Rattle.checker.proofs.line.offending_span.Reads as offending_span
use Rattle.checker.proofs.line.offending_line.Reads as offending_line

refusal_one : OneAnswer refusal.Post
refusal_one κ a x y s t h k = h ∙ sym k

check_one : OneAnswer check.Post
check_one κ a x y s t h k = h.result ∙ sym k.result

check_source : OneOf check.Post (λ κ r s. s.1.1.1.0.now)
check_source κ a x y s t h k = h.source ∙ sym k.source

check_target : OneOf check.Post (λ κ r s. s.1.1.1.1.0.now)
check_target κ a x y s t h k = h.target ∙ sym k.target

check_entries : OneOf check.Post (λ κ r s. s.1.1.1.1.1.0.now)
check_entries κ a x y s t h k = h.entries ∙ sym k.entries

check_in_one : OneAnswer check_in.Post
check_in_one κ a x y s t h k = h.result ∙ sym k.result

check_in_source : OneOf check_in.Post (λ κ r s. s.1.1.1.1.0.now)
check_in_source κ a x y s t h k = h.source ∙ sym k.source

check_in_target : OneOf check_in.Post (λ κ r s. s.1.1.1.1.1.0.now)
check_in_target κ a x y s t h k = h.target ∙ sym k.target

check_in_entries : OneOf check_in.Post (λ κ r s. s.1.1.1.1.1.1.0.now)
check_in_entries κ a x y s t h k = h.entries ∙ sym k.entries

check_listed_one : OneAnswer check_listed.Post
check_listed_one κ a x y s t h k = h.result ∙ sym k.result

check_listed_source : OneOf check_listed.Post (λ κ r s. s.1.1.1.1.1.0.now)
check_listed_source κ a x y s t h k = h.source ∙ sym k.source

check_listed_target : OneOf check_listed.Post (λ κ r s. s.1.1.1.1.1.1.0.now)
check_listed_target κ a x y s t h k = h.target ∙ sym k.target

check_listed_entries : OneOf check_listed.Post (λ κ r s. s.1.1.1.1.1.1.1.0.now)
check_listed_entries κ a x y s t h k = h.entries ∙ sym k.entries

offending_span_one : OneAnswer offending_span.Post
offending_span_one κ a x y s t h k = h.1 ∙ sym k.1

offending_line_bytes : OneOf offending_line.Post (λ κ r s. r.now)
offending_line_bytes κ a x y s t h k = h.0 ∙ sym k.0

offending_line_block : OneOf offending_line.Post (λ κ r s. r.ref_ptr.0)
offending_line_block κ a x y s t h k = h.1.0 ∙ sym k.1.0

offending_line_place : OneOf offending_line.Post (λ κ r s. r.ref_ptr.1)
offending_line_place κ a x y s t h k = h.1.1 ∙ sym k.1.1
