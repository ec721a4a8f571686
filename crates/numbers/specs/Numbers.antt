-- Document 01, "Numbers that come back", and requests C-11, C-12, C-16 and C-18: how what a call hands back lies in the arrays that C and Rust lend, and how
-- what they lend is read. Assumes nothing.
use Rattle.std.specs.Prelude.{ℕ, Bool, cond, not, List, [], ◌∷◌, ◌++◌, map, eqb}
use Rattle.event.specs.declared.Answer.{Answer}
use Rattle.record.specs.declared.form.Form.{Form}
use Rattle.record.specs.declared.form.Form.TheVariants.{One, Two}
use Rattle.changes.specs.declared.Run.{Run}
use Rattle.changes.specs.declared.Step.{Step}
use Rattle.changes.specs.declared.Step.TheVariants.{Remove, Swap, Insert, Done, Stuck}

-- An answer: number, side, place.
abbrev pub answer_numbers : Answer → List ℕ
answer_numbers a = a.number ∷ a.side ∷ a.place ∷ []

-- An answer, then how many events or entries were read.
abbrev pub count_numbers : Answer → ℕ → List ℕ
count_numbers a n = answer_numbers a ++ n ∷ []

-- An answer, then the events of the source, those of the target, and the entries; and then how many steps there are.
abbrev pub checked_numbers : Answer → ℕ → ℕ → ℕ → List ℕ
checked_numbers a source target entries = answer_numbers a ++ source ∷ target ∷ entries ∷ []

abbrev pub started_numbers : Answer → ℕ → ℕ → ℕ → ℕ → List ℕ
started_numbers a source target entries steps = checked_numbers a source target entries ++ steps ∷ []

-- 1 for yes, 0 for no; and back, any number but 0 for yes.
abbrev pub flag : Bool → ℕ
flag b = cond b 1 0

abbrev pub flagged : ℕ → Bool
flagged n = not (eqb n 0)

-- A list's marks; and back.
abbrev pub marks : List Bool → List ℕ
marks listed = map flag listed

abbrev pub listing : List ℕ → List Bool
listing numbers = map flagged numbers

-- The number of a form; and the form that a number names: 2 is form 2, any other number form 1.
abbrev pub form_number : Form → ℕ
form_number One = 1
form_number Two = 2

abbrev pub form_numbered : ℕ → Form
form_numbered n = cond (eqb n 2) Two One

-- A run: whether it has begun, and how many events stand; and back.
abbrev pub run_numbers : Run → List ℕ
run_numbers r = flag r.begun ∷ r.standing ∷ []

abbrev pub run_numbered : ℕ → ℕ → Run
run_numbered begun standing = record { begun = flagged begun; standing = standing }

-- A step: its kind (0 none is left, 1 removal, 2 swap, 3 insertion, 4 stuck), its place, and of a removal the source number; and back.
abbrev pub step_numbers : Step → List ℕ
step_numbers (Remove i k) = 1 ∷ i ∷ k ∷ []
step_numbers (Swap i) = 2 ∷ i ∷ 0 ∷ []
step_numbers (Insert i) = 3 ∷ i ∷ 0 ∷ []
step_numbers Done = 0 ∷ 0 ∷ 0 ∷ []
step_numbers Stuck = 4 ∷ 0 ∷ 0 ∷ []

abbrev pub step_numbered : ℕ → ℕ → ℕ → Step
step_numbered kind place number =
    cond (eqb kind 1) (Remove place number)
    (cond (eqb kind 2) (Swap place) (cond (eqb kind 3) (Insert place) (cond (eqb kind 4) Stuck Done)))
