-- One answer to each contract of a public function: each says by an equation what it is. Assumes nothing.
use mathlib.Core.Path.{sym, ◌∙◌}
use Rattle.laws.specs.Unique.{OneAnswer}
use Rattle.kinds.proofs.row_of.Reads as row_of
use Rattle.kinds.proofs.is_in.Reads as is_in
use Rattle.kinds.proofs.suits.Reads as suits
use Rattle.kinds.proofs.is_load_kind.Reads as is_load_kind
use Rattle.kinds.proofs.is_marks.Reads as is_marks
use Rattle.kinds.proofs.is_plain.Reads as is_plain
use Rattle.kinds.proofs.is_lawful.Reads as is_lawful

row_of_one : OneAnswer row_of.Post
row_of_one κ a x y s t h k = h ∙ sym k

is_in_one : OneAnswer is_in.Post
is_in_one κ a x y s t h k = h ∙ sym k

suits_one : OneAnswer suits.Post
suits_one κ a x y s t h k = h ∙ sym k

is_load_kind_one : OneAnswer is_load_kind.Post
is_load_kind_one κ a x y s t h k = h ∙ sym k

is_marks_one : OneAnswer is_marks.Post
is_marks_one κ a x y s t h k = h ∙ sym k

is_plain_one : OneAnswer is_plain.Post
is_plain_one κ a x y s t h k = h ∙ sym k

is_lawful_one : OneAnswer is_lawful.Post
is_lawful_one κ a x y s t h k = h ∙ sym k
