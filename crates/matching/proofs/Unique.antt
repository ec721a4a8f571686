-- One answer and one room to each contract of a public function, each over the contract itself. Assumes nothing.
use mathlib.Core.Path.{refl, sym, ◌∙◌}
use Rattle.event.proofs.Told.{tells_one}
use Rattle.laws.specs.Unique.{OneAnswer, OneOf}
use Rattle.matching.specs.Reading.{MatchingRead, refused, read_as}
use Rattle.matching.proofs.read.Reads as read
use Rattle.matching.proofs.survey_in.Reads as survey_in
use Rattle.matching.proofs.store.Reads as store

read_one : OneAnswer read.Post
read_one κ a x y s t h k = tells_one read_as refused MatchingRead.answer MatchingRead.entries (λ n. refl) (λ b. refl) (λ n. refl) _ x y h.0 k.0

read_room : OneOf read.Post (λ κ r s. s.1.0.now)
read_room κ a x y s t h k = h.1 ∙ sym k.1

survey_in_one : OneAnswer survey_in.Post
survey_in_one κ a x y s t h k = tells_one read_as refused MatchingRead.answer MatchingRead.entries (λ n. refl) (λ b. refl) (λ n. refl) _ x y h k

store_room : OneOf store.Post (λ κ r s. s.1.0.now)
store_room κ a x y s t h k = h ∙ sym k
