-- Document 02, C-16: "A list text ... is read before a trace is read or written". A call with a list goes by what was read of the list: its answer comes
-- ahead of everything, and stores nothing. Assumes nothing.
use Rattle.std.specs.Prelude.{ℕ, cond, List, eqb}
use Rattle.event.specs.Answer.{first}
use Rattle.event.specs.declared.Answer.{Answer}
use Rattle.memory.specs.declared.Memory.{Memory}
use Rattle.frame.specs.Reading.{settle}
use Rattle.registers.specs.Reading.{ListRead}
use Rattle.record.specs.declared.form.Form.{Form}
use Rattle.trace.specs.Moving.{move_in, moved_out_in}
use Rattle.trace.specs.Reading.{refused, read_in, room_after_in}
use Rattle.trace.specs.Writing.{write_in, out_after_in}
use Rattle.trace.specs.Reading.{TraceRead}

-- What is lent, as it is afterwards: unchanged by a refusal of the list.
abbrev pub unless_listed : ListRead → List ℕ → List ℕ → List ℕ
unless_listed list was after = cond (eqb list.answer.number 0) after was

-- A reading, and the room afterwards.
unfoldable pub read_listed : ListRead → List ℕ → List ℕ → TraceRead
read_listed list t room = settle refused list.answer (read_in list.listed 1 t room)

unfoldable pub room_listed : ListRead → List ℕ → List ℕ → List ℕ
room_listed list t room = unless_listed list room (room_after_in list.listed 1 t room)

-- The writer, and the bytes afterwards.
unfoldable pub write_listed : ListRead → Form → Memory → List ℕ → List ℕ → Answer
write_listed list f m room out = first list.answer (write_in list.listed f m room out)

unfoldable pub out_listed : ListRead → Form → Memory → List ℕ → List ℕ → List ℕ
out_listed list f m room out = unless_listed list out (out_after_in list.listed f m room out)

-- A move, and the bytes afterwards.
unfoldable pub move_listed : ListRead → Form → List ℕ → List ℕ → Answer
move_listed list to t out = first list.answer (move_in list.listed to t out)

unfoldable pub moved_listed : ListRead → Form → List ℕ → List ℕ → List ℕ
moved_listed list to t out = unless_listed list out (moved_out_in list.listed to t out)
