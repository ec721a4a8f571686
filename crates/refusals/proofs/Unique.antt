-- One answer to each contract of a public function, each over the contract itself. Assumes nothing.
use mathlib.Core.Path.{sym, ◌∙◌}
use Rattle.event.proofs.Told.{passes_one}
use Rattle.trace.proofs.Unique.{reads_one}
use Rattle.laws.specs.Unique.{OneAnswer}
use Rattle.refusals.proofs.room.count_of.Reads as count_of
use Rattle.refusals.proofs.room.write_fault.Reads as write_fault
use Rattle.refusals.proofs.moving.survey_to.Reads as survey_to

count_of_one : OneAnswer count_of.Post
count_of_one κ a x y s t h k = h ∙ sym k

write_fault_one : OneAnswer write_fault.Post
write_fault_one κ a x y s t h k = passes_one _ x y h k

survey_to_one : OneAnswer survey_to.Post
survey_to_one κ a x y s t h k = reads_one _ x y h k
