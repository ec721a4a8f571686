-- One answer and one room to each contract of a public function, each over the contract itself. Assumes nothing.
use mathlib.Core.Path.{sym, ◌∙◌}
use Rattle.event.proofs.Told.{passes_one}
use Rattle.laws.specs.Unique.{OneAnswer}
use Rattle.frame.proofs.head_fault.Reads as head_fault
use Rattle.frame.proofs.is_headed.Reads as is_headed

head_fault_one : OneAnswer head_fault.Post
head_fault_one κ a x y s t h k = passes_one _ x y h k

is_headed_one : OneAnswer is_headed.Post
is_headed_one κ a x y s t h k = h ∙ sym k
