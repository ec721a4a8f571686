-- One answer and one room to each contract of a public function: each says by an equation what it is. Assumes nothing.
use mathlib.Core.Path.{sym, ◌∙◌}
use Rattle.laws.specs.Unique.{OneAnswer, OneOf}
use Rattle.event.proofs.Answer.new.Reads as new
use Rattle.event.proofs.Answer.of_bytes.Reads as of_bytes
use Rattle.event.proofs.index_of.Reads as index_of
use Rattle.event.proofs.number_index.Reads as number_index
use Rattle.event.proofs.room.get.Reads as get
use Rattle.event.proofs.room.put.Reads as put

new_one : OneAnswer new.Post
new_one κ a x y s t h k = h ∙ sym k

of_bytes_one : OneAnswer of_bytes.Post
of_bytes_one κ a x y s t h k = h ∙ sym k

index_of_one : OneAnswer index_of.Post
index_of_one κ a x y s t h k = h ∙ sym k

number_index_one : OneAnswer number_index.Post
number_index_one κ a x y s t h k = h ∙ sym k

get_one : OneAnswer get.Post
get_one κ a x y s t h k = h ∙ sym k

put_one : OneOf put.Post (λ κ r s. s.0.now)
put_one κ a x y s t h k = h ∙ sym k
