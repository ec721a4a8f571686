-- One answer to each contract of a public function: each says by an equation what it is. Assumes nothing.
use Rattle.std.proofs.Common.{sym, ◌∙◌}
use Rattle.laws.specs.Unique.{OneAnswer}
use Rattle.memory.proofs.Memory.empty.Reads as empty
use Rattle.memory.proofs.Memory.step.Reads as step
use Rattle.memory.proofs.listed.is_listed.Reads as is_listed
use Rattle.memory.proofs.listed.is_register.Reads as is_register

empty_one : OneAnswer empty.Post
empty_one κ a x y s t h k = h ∙ sym k

step_one : OneAnswer step.Post
step_one κ a x y s t h k = h ∙ sym k

is_listed_one : OneAnswer is_listed.Post
is_listed_one κ a x y s t h k = h ∙ sym k

is_register_one : OneAnswer is_register.Post
is_register_one κ a x y s t h k = h ∙ sym k
