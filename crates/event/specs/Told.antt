-- Document 01, "Numbers that come back": an answer's number is 0, or it refuses. What a function that may refuse hands back, beside a definition that says
-- the same in one answer. Assumes nothing.
use Rattle.std.specs.Prelude.{Bool, false, cond, ◌≡◌, eqb, Result, Ok, Err, MatchResult, ⊤}
use Rattle.event.specs.Answer.{done}
use Rattle.event.specs.declared.Answer.{Answer}

-- Whether an answer is no refusal.
abbrev pub is_done : Answer → Bool
is_done a = eqb a.number 0

abbrev pub Refuses : Answer → Type 0
Refuses a = is_done a ≡ false

-- What is handed back is what a definition says: `whole` of what was made, or `refused` of an answer that refuses.
abbrev pub Tells : {A R : Type 0} → (A → R) → (Answer → R) → R → Result A Answer → Type 0
Tells whole refused said result = MatchResult result (λ x. whole x ≡ said) (λ a. Refuses a × (refused a ≡ said))

-- The same where nothing is made.
abbrev pub Passes : Answer → Result ⊤ Answer → Type 0
Passes said result = Tells (λ _. done) (λ a. a) said result

-- What an answer hands back there: itself, if it refuses.
abbrev pub passed : Answer → Result ⊤ Answer
passed a = cond (is_done a) (Ok tt) (Err a)

-- What is told by a result.
abbrev pub told : {A R : Type 0} → (A → R) → (Answer → R) → Result A Answer → R
told whole refused (Ok x) = whole x
told whole refused (Err a) = refused a
