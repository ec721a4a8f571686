-- One answer to the contract of the public function, over the contract itself. Assumes nothing.
use mathlib.Core.Path.{refl}
use Rattle.event.proofs.Told.{tells_one}
use Rattle.laws.specs.Unique.{OneAnswer}
use Rattle.registers.specs.Reading.{ListRead, refused, read_as}
use Rattle.registers.proofs.read.Reads as read

read_one : OneAnswer read.Post
read_one κ a x y s t h k = tells_one read_as refused ListRead.answer ListRead.listed (λ m. refl) (λ b. refl) (λ m. refl) _ x y h k
