-- One answer to each contract of a public function, each over the contract itself. Assumes nothing.
use Rattle.event.proofs.Told.{passes_one}
use Rattle.laws.specs.Unique.{OneAnswer}
use Rattle.fates.proofs.source.source_answer.Reads as source_answer

source_answer_one : OneAnswer source_answer.Post
source_answer_one κ a x y s t h k = passes_one _ x y h k
