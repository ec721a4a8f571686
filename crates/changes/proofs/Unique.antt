-- One answer and one array to each contract of a public function, each over the contract itself. Assumes nothing.
use mathlib.Core.Path.{sym, ◌∙◌}
use Rattle.laws.specs.Unique.{OneAnswer, OneOf}
use Rattle.changes.proofs.apply.Reads as apply
use Rattle.changes.proofs.apply_listed.Reads as apply_listed
use Rattle.changes.proofs.is_open.Reads as is_open
use Rattle.changes.proofs.allowed.may_remove.Reads as may_remove

is_open_one : OneAnswer is_open.Post
is_open_one κ a x y s t h k = h ∙ sym k

may_remove_one : OneAnswer may_remove.Post
may_remove_one κ a x y s t h k = h ∙ sym k

apply_one : OneAnswer apply.Post
apply_one κ a x y s t h k = h.answer ∙ sym k.answer

apply_tags : OneOf apply.Post (λ κ r s. s.1.0.now)
apply_tags κ a x y s t h k = h.left ∙ sym k.left

apply_listed_one : OneAnswer apply_listed.Post
apply_listed_one κ a x y s t h k = h.answer ∙ sym k.answer

apply_listed_tags : OneOf apply_listed.Post (λ κ r s. s.1.1.0.now)
apply_listed_tags κ a x y s t h k = h.left ∙ sym k.left
