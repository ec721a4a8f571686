-- One answer and one room to each contract of a public function, each over the contract itself. Assumes nothing.
use mathlib.Core.Path.{sym, ◌∙◌}
use Rattle.laws.specs.Unique.{OneAnswer, OneOf}
use Rattle.record.proofs.record_of.Reads as record_of
use Rattle.record.proofs.shape.shape_of.Reads as shape_of
use Rattle.record.proofs.form.is_coded.Reads as is_coded
use Rattle.record.proofs.form.limit_of.Reads as limit_of
use Rattle.record.proofs.form.header_bytes.Reads as header_bytes
use Rattle.record.proofs.form.header_of.Reads as header_of
use Rattle.record.proofs.form.does_lose.Reads as does_lose
use Rattle.record.proofs.form.is_silent.Reads as is_silent
use Rattle.record.proofs.word.word_in.Reads as word_in

record_of_one : OneAnswer record_of.Post
record_of_one κ a x y s t h k = h ∙ sym k

shape_of_one : OneAnswer shape_of.Post
shape_of_one κ a x y s t h k = h ∙ sym k

word_in_one : OneOf word_in.Post (λ κ r s. r.now)
word_in_one κ a x y s t h k = h ∙ sym k

is_coded_one : OneAnswer is_coded.Post
is_coded_one κ a x y s t h k = h ∙ sym k

limit_of_one : OneAnswer limit_of.Post
limit_of_one κ a x y s t h k = h ∙ sym k

header_bytes_one : OneAnswer header_bytes.Post
header_bytes_one κ a x y s t h k = h ∙ sym k

header_of_one : OneOf header_of.Post (λ κ r s. r.now)
header_of_one κ a x y s t h k = h ∙ sym k

is_silent_one : OneAnswer is_silent.Post
is_silent_one κ a x y s t h k = h ∙ sym k

does_lose_one : OneAnswer does_lose.Post
does_lose_one κ a x y s t h k = h ∙ sym k
