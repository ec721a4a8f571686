-- Document 02, C-16: a list text "is read before a trace is read or written, answering 1, then line by line 2 and 22, side 4"; C-20: lines "ascending by group,
-- then location; up to 32 each. A check is run for one group and uses only its lines". Assumes nothing.
use Rattle.std.specs.Prelude.{ℕ, ◌+◌, ◌*◌, Bool, true, cond, ◌||◌, List, [], ◌∷◌, eqb, leb, ltb, get_or, replicate, set, Option, Some, None, Result}
use Rattle.event.specs.Answer.{done}
use Rattle.event.specs.Told.{Tells}
use Rattle.event.specs.Limit.{places}
use Rattle.memory.specs.Listed.{none_listed}
use Rattle.event.specs.declared.Answer.{Answer}
use Rattle.text.specs.Line.{split, body, said_in}
use Rattle.frame.specs.Reading.{Layout, headed, text_fault, settle}
use Rattle.registers.specs.Reg.{header, reg_of}
use Rattle.registers.specs.declared.reg.Register.{Register}

-- The most bytes.
abbrev pub list_limit : ℕ
list_limit = 32400

-- The most registers of a group.
abbrev pub reg_limit : ℕ
reg_limit = 32

-- Registers ascend by group, then location: so do these numbers.
abbrev pub rank : Register → ℕ
rank r = r.group * places + r.location

-- What is known of the lines so far: the lowest rank that may come, and, by group, the number of registers.
pub record SoFar : Type 0 where
  pub low : ℕ
  pub counts : List ℕ

abbrev pub nothing : SoFar
nothing = record { low = 0; counts = replicate 3 0 }

-- How many registers of its group come before a register.
abbrev pub before : SoFar → Register → ℕ
before s r = get_or s.counts r.group 0

-- The refusal of a line, 2, or 22: "list out of order or over 32"; 0 for none.
abbrev pub regs_fault : SoFar → Option Register → ℕ
regs_fault s None = 2
regs_fault s (Some r) = cond (ltb (rank r) s.low || leb reg_limit (before s r)) 22 0

-- What is known after it.
abbrev pub after_reg : SoFar → Option Register → SoFar
after_reg s None = s
after_reg s (Some r) = record { low = rank r + 1; counts = set s.counts r.group (before s r + 1) }

-- Whether a text is grouped: line 1 says so.
unfoldable pub is_grouped : List ℕ → Bool
is_grouped t = headed (header true) (split t)

-- The layout of a list.
abbrev pub regs_layout : Bool → Layout SoFar
regs_layout grouped = record {
  limit = list_limit;
  header = header grouped;
  start = nothing;
  fault = λ s l. regs_fault s (reg_of grouped l);
  next = λ s l. after_reg s (reg_of grouped l);
}

-- The registers of a text: those of the lines after line 1.
abbrev pub regs_on : Option Register → List Register
regs_on None = []
regs_on (Some r) = r ∷ []

abbrev pub regs_in : Bool → List (List ℕ) → List Register
regs_in grouped ls = said_in (λ l. regs_on (reg_of grouped l)) ls

unfoldable pub regs_of : List ℕ → List Register
regs_of t = regs_in (is_grouped t) (body (split t))

-- The locations of one group.
abbrev pub of_group : ℕ → List Register → List ℕ
of_group g [] = []
of_group g (r ∷ rs) = cond (eqb r.group g) (r.location ∷ of_group g rs) (of_group g rs)

abbrev pub group_of : ℕ → List ℕ → List ℕ
group_of g t = of_group g (regs_of t)

-- A mark for each location: those of some locations set besides, and those of a list's.
unfoldable pub marked : List Bool → List ℕ → List Bool
marked marks [] = marks
marked marks (p ∷ ps) = marked (set marks p true) ps

abbrev pub marks_of : List ℕ → List Bool
marks_of ps = marked none_listed ps

-- What a reading says: its answer, and which locations are listed, none under a refusal.
pub record ListRead : Type 0 where
  pub answer : Answer
  pub listed : List Bool

-- What a refusal says, and what a reading does.
abbrev pub refused : Answer → ListRead
refused a = record { answer = a; listed = none_listed }

abbrev pub read_as : List Bool → ListRead
read_as marks = record { answer = done; listed = marks }

-- A reading for a group: the whole list is tried, and the group's own lines are used.
unfoldable pub list_of : ℕ → List ℕ → ListRead
list_of g t = settle refused (text_fault (regs_layout (is_grouped t)) 4 t) (read_as (marks_of (group_of g t)))

-- What is handed back is what a reading says: the marks, or the answer that refuses.
abbrev pub Reads : Result (List Bool) Answer → ListRead → Type 0
Reads result read = Tells read_as refused read result
