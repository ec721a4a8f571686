-- Document 02, C-19: a trace text shortened, under a list of registers, and the matching text from it to the shortened one. The shortened text keeps its
-- source's form and code lines; the starting values that are not 0 stay, and in form 2 the zero lines of the locations that it touches. Assumes nothing.
use Rattle.std.specs.Prelude.{ℕ, Bool, cond, Result, List, ◌++◌, ◌≡◌, eqb, leb, length, drop}
use Rattle.event.specs.Answer.{answer, done, first}
use Rattle.event.specs.declared.Answer.{Answer}
use Rattle.memory.specs.Listed.{none_listed}
use Rattle.frame.specs.Reading.{settle}
use Rattle.registers.specs.Reading.{ListRead}
use Rattle.trace.specs.Reading.{form_of, start_of, events_of, fault_in}
use Rattle.trace.specs.Writing.{trace_text}
use Rattle.trace.specs.Listed.{unless_listed}
use Rattle.matching.specs.Text.{match_text}
use Rattle.shelf.specs.Short.{short_in, names_in}
use Rattle.event.specs.Told.{Tells}
use Rattle.shorten.specs.declared.Shortened.{Shortened}

-- The shortened text, and the matching text.
unfoldable pub short_text : List Bool → List ℕ → List ℕ
short_text regs t = trace_text (form_of t) (start_of t) (short_in regs (events_of t))

unfoldable pub short_matching : List Bool → List ℕ → List ℕ
short_matching regs t = match_text (names_in regs (events_of t))

-- 17: the bytes of a text do not fit where they are to go, by its side; the place is how many they are.
abbrev pub fit_fault : ℕ → List ℕ → List ℕ → Answer
fit_fault side t out = cond (leb (length t) (length out)) done (answer 17 side (length t))

-- "17, side 2 then 3", of the two texts.
abbrev pub both_fault : List ℕ → List ℕ → List ℕ → List ℕ → Answer
both_fault t m out matchingOut = first (fit_fault 2 t out) (fit_fault 3 m matchingOut)

-- What a shortening says: its answer, and how many bytes the two texts have, 0 under a refusal.
pub record ShortSaid : Type 0 where
  pub answer : Answer
  pub bytes : ℕ
  pub matching_bytes : ℕ

-- What a refusal says, no byte; and what is said of two texts that are written.
abbrev pub refused : Answer → ShortSaid
refused a = record { answer = a; bytes = 0; matching_bytes = 0 }

abbrev pub counted : ℕ → ℕ → ShortSaid
counted n k = record { answer = done; bytes = n; matching_bytes = k }

abbrev pub written : List ℕ → List ℕ → ShortSaid
written t m = counted (length t) (length m)

-- What is handed back is what a shortening says: the bytes, or the answer that refuses.
abbrev pub whole : Shortened → ShortSaid
whole s = counted s.bytes s.matching_bytes

abbrev pub Says : Result Shortened Answer → ShortSaid → Type 0
Says result said = Tells whole refused said result

-- By the first refusal: what is handed back, and a lent part afterwards, with its text at the front. A refusal changes neither part.
abbrev pub shortened_by : Answer → List ℕ → List ℕ → ShortSaid
shortened_by fault t m = settle refused fault (written t m)

abbrev pub part_by : Answer → List ℕ → List ℕ → List ℕ
part_by fault t out = cond (eqb fault.number 0) (t ++ drop (length t) out) out

-- Two texts to be written: what comes back, and the two parts afterwards.
pub record Writes (t m out matchingOut : List ℕ) (r : Result Shortened Answer) (after matchingAfter : List ℕ) : Type 0 where
  pub result : Says r (shortened_by (both_fault t m out matchingOut) t m)
  pub text : after ≡ part_by (both_fault t m out matchingOut) t out
  pub matching : matchingAfter ≡ part_by (both_fault t m out matchingOut) m matchingOut

-- The refusals: "reading's own, and 17, side 2 then 3".
unfoldable pub short_fault : List Bool → List ℕ → List ℕ → List ℕ → Answer
short_fault regs t out matchingOut = first (fault_in regs 1 t) (both_fault (short_text regs t) (short_matching regs t) out matchingOut)

-- What comes back, and the two lent parts afterwards.
unfoldable pub shorten_in : List Bool → List ℕ → List ℕ → List ℕ → ShortSaid
shorten_in regs t out matchingOut = shortened_by (short_fault regs t out matchingOut) (short_text regs t) (short_matching regs t)

unfoldable pub short_out_in : List Bool → List ℕ → List ℕ → List ℕ → List ℕ
short_out_in regs t out matchingOut = part_by (short_fault regs t out matchingOut) (short_text regs t) out

unfoldable pub matching_out_in : List Bool → List ℕ → List ℕ → List ℕ → List ℕ
matching_out_in regs t out matchingOut = part_by (short_fault regs t out matchingOut) (short_matching regs t) matchingOut

-- What a call is to hand back and to leave.
pub record ShortensIn (regs : List Bool) (t out matchingOut : List ℕ) (r : Result Shortened Answer) (after matchingAfter : List ℕ) : Type 0 where
  pub result : Says r (shorten_in regs t out matchingOut)
  pub text : after ≡ short_out_in regs t out matchingOut
  pub matching : matchingAfter ≡ matching_out_in regs t out matchingOut

-- The same without a list, which lists none.
abbrev pub Shortens : List ℕ → List ℕ → List ℕ → Result Shortened Answer → List ℕ → List ℕ → Type 0
Shortens = ShortensIn none_listed

-- With what was read of a list, whose answer comes ahead of everything and changes nothing.
unfoldable pub shorten_listed : ListRead → List ℕ → List ℕ → List ℕ → ShortSaid
shorten_listed list t out matchingOut = settle refused list.answer (shorten_in list.listed t out matchingOut)

unfoldable pub short_out_listed : ListRead → List ℕ → List ℕ → List ℕ → List ℕ
short_out_listed list t out matchingOut = unless_listed list out (short_out_in list.listed t out matchingOut)

unfoldable pub matching_out_listed : ListRead → List ℕ → List ℕ → List ℕ → List ℕ
matching_out_listed list t out matchingOut = unless_listed list matchingOut (matching_out_in list.listed t out matchingOut)

pub record ShortensListed (list : ListRead) (t out matchingOut : List ℕ) (r : Result Shortened Answer) (after matchingAfter : List ℕ) : Type 0 where
  pub result : Says r (shorten_listed list t out matchingOut)
  pub text : after ≡ short_out_listed list t out matchingOut
  pub matching : matchingAfter ≡ matching_out_listed list t out matchingOut
