-- One answer and one room to each contract of a public function, each over the contract itself. Assumes nothing.
use Prim.Native.Nat.{ℕ}
use mathlib.Core.Path.{◌≡◌, sym, ◌∙◌}
use mathlib.Core.List.{List}
use denote.Ref.{Bor}
use Rattle.laws.specs.Unique.{OneAnswer, OneOf}
use Rattle.text.specs.declared.reader.Reader.{Reader}
use Rattle.text.proofs.line.next_line.Reads as next_line
use Rattle.text.proofs.line.line_two.Reads as line_two
use Rattle.text.proofs.number.number_of.Reads as number_of_lem
use Rattle.text.proofs.reader.field_of.Reads as field_of
use Rattle.text.proofs.scan.find.Reads as find
use Rattle.text.proofs.take.take_number.Reads as take_number
use Rattle.text.proofs.take.ends_at.Reads as ends_at
use Rattle.text.proofs.word.same_bytes.Reads as same_bytes
use Rattle.text.proofs.write.put_number.Reads as put_number

next_line_one : OneAnswer next_line.Post
next_line_one κ a x y s t h k = h ∙ sym k

line_two_one : OneAnswer line_two.Post
line_two_one κ a x y s t h k = h ∙ sym k

number_of_one : OneAnswer number_of_lem.Post
number_of_one κ a x y s t h k = h ∙ sym k

field_of_one : OneAnswer field_of.Post
field_of_one κ a x y s t h k = h ∙ sym k

-- A function that takes or hands back a reader is proved by hand and has no `Post`: of `new` and `moved`, one reader to their clause.
reader_one : (text : Bor (List ℕ)) (at : ℕ) (x y : Reader) → (x.text ≡ text) × (x.at ≡ at) → (y.text ≡ text) × (y.at ≡ at) → x ≡ y
reader_one text at x y h k i = record { text = (h.0 ∙ sym k.0) i; at = (h.1 ∙ sym k.1) i }

find_one : OneAnswer find.Post
find_one κ a x y s t h k = h ∙ sym k

take_number_one : OneAnswer take_number.Post
take_number_one κ a x y s t h k = h ∙ sym k

ends_at_one : OneAnswer ends_at.Post
ends_at_one κ a x y s t h k = h ∙ sym k

same_bytes_one : OneAnswer same_bytes.Post
same_bytes_one κ a x y s t h k = h ∙ sym k

put_number_one : OneAnswer put_number.Post
put_number_one κ a x y s t h k = h.0 ∙ sym k.0

put_number_room : OneOf put_number.Post (λ κ r s. s.0.now)
put_number_room κ a x y s t h k = h.1 ∙ sym k.1
