-- One answer and one room to each contract of a public function, each over the contract itself. Assumes nothing.
use mathlib.Core.Path.{◌≡◌, refl, sym, ◌∙◌}
use Rattle.std.specs.Prelude.{Result}
use Rattle.event.specs.declared.Answer.{Answer}
use Rattle.event.proofs.Told.{tells_one}
use Rattle.trace.specs.Reading.{TraceRead, Reads, read_as, refused}
use Rattle.trace.specs.declared.reading.Held.{Held}
use Rattle.laws.specs.Unique.{OneAnswer, OneOf}
use Rattle.trace.proofs.read.Reads as read
use Rattle.trace.proofs.read_in.Reads as read_in
use Rattle.trace.proofs.read_listed.Reads as read_listed
use Rattle.trace.proofs.reading.survey_in.Reads as survey_in
use Rattle.trace.proofs.reading.store.Reads as store
use Rattle.trace.proofs.form.form_of.Reads as form_of
use Rattle.trace.proofs.fault.is_right.Reads as is_right
use Rattle.trace.proofs.fault.fault_at.Reads as fault_at
use Rattle.trace.proofs.form.is_of.Reads as is_of
use Rattle.trace.proofs.ahead.next_event.Reads as next_event
use Rattle.trace.proofs.reading.survey.Reads as survey

-- what is held, or the answer that refuses, by what the reading says
pub reads_one : (read : TraceRead) (x y : Result Held Answer) → Reads x read → Reads y read → x ≡ y
reads_one read x y h k =
    tells_one (λ h. read_as h.events h.memory) refused TraceRead.answer (λ r. record { events = r.events; memory = r.memory }) (λ h. refl) (λ a. refl) (λ h. refl) read x y h k

read_one : OneAnswer read.Post
read_one κ a x y s t h k = reads_one _ x y h.0 k.0

read_room : OneOf read.Post (λ κ r s. s.1.0.now)
read_room κ a x y s t h k = h.1 ∙ sym k.1

survey_in_one : OneAnswer survey_in.Post
survey_in_one κ a x y s t h k = reads_one _ x y h k

store_room : OneOf store.Post (λ κ r s. s.1.0.now)
store_room κ a x y s t h k = h ∙ sym k

form_of_one : OneAnswer form_of.Post
form_of_one κ a x y s t h k = h ∙ sym k

read_in_one : OneAnswer read_in.Post
read_in_one κ a x y s t h k = reads_one _ x y h.0 k.0

read_in_room : OneOf read_in.Post (λ κ r s. s.1.1.0.now)
read_in_room κ a x y s t h k = h.1 ∙ sym k.1

read_listed_one : OneAnswer read_listed.Post
read_listed_one κ a x y s t h k = reads_one _ x y h.0 k.0

read_listed_room : OneOf read_listed.Post (λ κ r s. s.1.1.1.0.now)
read_listed_room κ a x y s t h k = h.1 ∙ sym k.1

is_right_one : OneAnswer is_right.Post
is_right_one κ a x y s t h k = h ∙ sym k

fault_at_one : OneAnswer fault_at.Post
fault_at_one κ a x y s t h k = h ∙ sym k

is_of_one : OneAnswer is_of.Post
is_of_one κ a x y s t h k = h ∙ sym k

next_event_one : OneAnswer next_event.Post
next_event_one κ a x y s t h k = h.0 ∙ sym k.0

survey_one : OneAnswer survey.Post
survey_one κ a x y s t h k = reads_one _ x y h k
