-- One answer and one room to each contract of a public function, each over the contract itself. Assumes nothing.
use Prim.Native.Nat.{ℕ}
use mathlib.Core.Bool.{false≢true}
use mathlib.Core.Path.{◌≡◌, sym, ◌∙◌, ap}
use Rattle.std.specs.Prelude.{Result, Ok, Err}
use Rattle.event.specs.Told.{is_done}
use Rattle.event.specs.declared.Answer.{Answer}
use Rattle.laws.specs.Unique.{OneAnswer, OneOf}
use Rattle.writer.specs.Wrote.{Wrote}
use Rattle.writer.proofs.write.Reads as write
use Rattle.writer.proofs.write_in.Reads as write_in
use Rattle.writer.proofs.write_listed.Reads as write_listed
use Rattle.writer.proofs.moving.move_to.Reads as move_to
use Rattle.writer.proofs.moving.move_in.Reads as MoveIn
use Rattle.writer.proofs.moving.move_listed.Reads as move_listed
use Rattle.writer.proofs.put.write_event.Reads as write_event
use Rattle.writer.proofs.put.put.Reads as put
use Rattle.writer.proofs.put.put_number_if.Reads as put_number_if
use Rattle.writer.proofs.put.put_event.Reads as put_event
use Rattle.writer.proofs.put.put_start.Reads as put_start

-- how many bytes, or the answer that refuses, by the answer that is said
wrote_one : (said : Answer) (x y : Result ℕ Answer) → Wrote x said → Wrote y said → x ≡ y
wrote_one said (Ok x) (Ok y) h k = ap (λ (a : Answer). Ok a.place) (h ∙ sym k)
wrote_one said (Ok x) (Err b) h k = absurd (false≢true (sym k.0 ∙ ap is_done (k.1 ∙ sym h)))
wrote_one said (Err a) (Ok y) h k = absurd (false≢true (sym h.0 ∙ ap is_done (h.1 ∙ sym k)))
wrote_one said (Err a) (Err b) h k = ap Err (h.1 ∙ sym k.1)

write_one : OneAnswer write.Post
write_one κ a x y s t h k = wrote_one _ x y h.0 k.0

write_room : OneOf write.Post (λ κ r s. s.1.1.1.0.now)
write_room κ a x y s t h k = h.1 ∙ sym k.1

move_to_one : OneAnswer move_to.Post
move_to_one κ a x y s t h k = wrote_one _ x y h.0 k.0

move_to_room : OneOf move_to.Post (λ κ r s. s.1.1.0.now)
move_to_room κ a x y s t h k = h.1 ∙ sym k.1

write_event_one : OneAnswer write_event.Post
write_event_one κ a x y s t h k = h.counted ∙ sym k.counted

write_event_bytes : OneOf write_event.Post (λ κ r s. s.1.1.0.now)
write_event_bytes κ a x y s t h k = h.stored ∙ sym k.stored

write_in_one : OneAnswer write_in.Post
write_in_one κ a x y s t h k = wrote_one _ x y h.0 k.0

write_in_room : OneOf write_in.Post (λ κ r s. s.1.1.1.1.0.now)
write_in_room κ a x y s t h k = h.1 ∙ sym k.1

write_listed_one : OneAnswer write_listed.Post
write_listed_one κ a x y s t h k = wrote_one _ x y h.0 k.0

write_listed_room : OneOf write_listed.Post (λ κ r s. s.1.1.1.1.1.0.now)
write_listed_room κ a x y s t h k = h.1 ∙ sym k.1

move_in_one : OneAnswer MoveIn.Post
move_in_one κ a x y s t h k = wrote_one _ x y h.0 k.0

move_in_room : OneOf MoveIn.Post (λ κ r s. s.1.1.1.0.now)
move_in_room κ a x y s t h k = h.1 ∙ sym k.1

move_listed_one : OneAnswer move_listed.Post
move_listed_one κ a x y s t h k = wrote_one _ x y h.0 k.0

move_listed_room : OneOf move_listed.Post (λ κ r s. s.1.1.1.1.0.now)
move_listed_room κ a x y s t h k = h.1 ∙ sym k.1

put_one : OneAnswer put.Post
put_one κ a x y s t h k = h.counted ∙ sym k.counted

put_bytes : OneOf put.Post (λ κ r s. s.0.now)
put_bytes κ a x y s t h k = h.stored ∙ sym k.stored

put_number_if_one : OneAnswer put_number_if.Post
put_number_if_one κ a x y s t h k = h.counted ∙ sym k.counted

put_number_if_bytes : OneOf put_number_if.Post (λ κ r s. s.1.0.now)
put_number_if_bytes κ a x y s t h k = h.stored ∙ sym k.stored

put_event_one : OneAnswer put_event.Post
put_event_one κ a x y s t h k = h.counted ∙ sym k.counted

put_event_bytes : OneOf put_event.Post (λ κ r s. s.1.0.now)
put_event_bytes κ a x y s t h k = h.stored ∙ sym k.stored

put_start_one : OneAnswer put_start.Post
put_start_one κ a x y s t h k = h.counted ∙ sym k.counted

put_start_bytes : OneOf put_start.Post (λ κ r s. s.1.0.now)
put_start_bytes κ a x y s t h k = h.stored ∙ sym k.stored
