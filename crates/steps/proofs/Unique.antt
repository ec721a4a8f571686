-- One answer and one array to each contract of a public function, each over the contract itself. Assumes nothing.
use mathlib.Core.Path.{sym, ◌∙◌}
use Rattle.laws.specs.Unique.{OneAnswer, OneOf}
use Rattle.steps.proofs.next.Reads as next
use Rattle.steps.proofs.replay.Reads as replay
use Rattle.steps.proofs.next_listed.Reads as next_listed
use Rattle.steps.proofs.replay_listed.Reads as replay_listed
use Rattle.steps.proofs.swap_place.Reads as swap_place

swap_place_one : OneAnswer swap_place.Post
swap_place_one κ a x y s t h k = h ∙ sym k

next_one : OneAnswer next.Post
next_one κ a x y s t h k = h ∙ sym k

replay_one : OneAnswer replay.Post
replay_one κ a x y s t h k = h.answer ∙ sym k.answer

replay_tags : OneOf replay.Post (λ κ r s. s.1.0.now)
replay_tags κ a x y s t h k = h.left ∙ sym k.left

next_listed_one : OneAnswer next_listed.Post
next_listed_one κ a x y s t h k = h ∙ sym k

replay_listed_one : OneAnswer replay_listed.Post
replay_listed_one κ a x y s t h k = h.answer ∙ sym k.answer

replay_listed_tags : OneOf replay_listed.Post (λ κ r s. s.1.1.0.now)
replay_listed_tags κ a x y s t h k = h.left ∙ sym k.left
