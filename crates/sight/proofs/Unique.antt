-- One answer to each contract of a public function, each over the contract itself. Assumes nothing.
use mathlib.Core.Path.{sym, ◌∙◌}
use Rattle.laws.specs.Unique.{OneAnswer}
use Rattle.sight.proofs.is_gone.Reads as is_gone
use Rattle.sight.proofs.is_load.Reads as is_load
use Rattle.sight.proofs.is_load_in.Reads as is_load_in
use Rattle.sight.proofs.is_wall.Reads as is_wall
use Rattle.sight.proofs.is_wall_in.Reads as is_wall_in
use Rattle.sight.proofs.is_same.Reads as is_same
use Rattle.sight.proofs.both.Reads as both

is_gone_one : OneAnswer is_gone.Post
is_gone_one κ a x y s t h k = h ∙ sym k

is_load_one : OneAnswer is_load.Post
is_load_one κ a x y s t h k = h ∙ sym k

is_wall_one : OneAnswer is_wall.Post
is_wall_one κ a x y s t h k = h ∙ sym k

is_load_in_one : OneAnswer is_load_in.Post
is_load_in_one κ a x y s t h k = h ∙ sym k

is_wall_in_one : OneAnswer is_wall_in.Post
is_wall_in_one κ a x y s t h k = h ∙ sym k

is_same_one : OneAnswer is_same.Post
is_same_one κ a x y s t h k = h ∙ sym k

both_one : OneAnswer both.Post
both_one κ a x y s t h k = h ∙ sym k
