-- One answer and one room to each contract of a public function, each over the contract itself. Assumes nothing.
use mathlib.Core.Path.{sym, ◌∙◌}
use Rattle.laws.specs.Unique.{OneAnswer}
use Rattle.judge.proofs.judge.Reads as judge

judge_one : OneAnswer judge.Post
judge_one κ a x y s t h k = h ∙ sym k
