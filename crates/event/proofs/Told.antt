-- What a function that may refuse hands back is told by what a definition says: two results that it tells are the same. Assumes nothing.
use mathlib.Core.Path.{◌≡◌, refl, ap, sym, ◌∙◌}
use mathlib.Core.Bool.{Bool, true, false, cond, false≢true}
use Prim.Native.Nat.{ℕ}
use native.Mathlib.Omega.{arith}
use Rattle.std.specs.Prelude.{Result, Ok, Err, ⊤}
use Rattle.std.specs.Result.{result_and}
use Rattle.event.specs.Answer.{done, first}
use Rattle.event.specs.Told.{is_done, Refuses, Tells, Passes}
use Rattle.event.specs.declared.Answer.{Answer}

-- done does not refuse
not_done : (a : Answer) → Refuses a → a ≡ done → ⊥
not_done a h e = false≢true (sym h ∙ ap is_done e)

-- where the answer and what was made can be read off what is said
module _ {A R : Type 0} (whole : A → R) (refused : Answer → R) (answer_of : R → Answer) (made : R → A)
    (whole_done : (x : A) → answer_of (whole x) ≡ done) (refused_so : (a : Answer) → answer_of (refused a) ≡ a)
    (made_so : (x : A) → made (whole x) ≡ x) (said : R) where
  pub tells_one : (x y : Result A Answer) → Tells whole refused said x → Tells whole refused said y → x ≡ y
  tells_one (Ok x) (Ok y) h k = ap Ok (sym (made_so x) ∙ ap made (h ∙ sym k) ∙ made_so y)
  tells_one (Ok x) (Err b) h k = absurd (not_done b k.0 (sym (refused_so b) ∙ ap answer_of (k.1 ∙ sym h) ∙ whole_done x))
  tells_one (Err a) (Ok y) h k = absurd (not_done a h.0 (sym (refused_so a) ∙ ap answer_of (h.1 ∙ sym k) ∙ whole_done y))
  tells_one (Err a) (Err b) h k = ap Err (sym (refused_so a) ∙ ap answer_of (h.1 ∙ sym k.1) ∙ refused_so b)

pub passes_one : (said : Answer) (x y : Result ⊤ Answer) → Passes said x → Passes said y → x ≡ y
passes_one said x y h k = tells_one (λ _. done) (λ a. a) (λ a. a) (λ _. tt) (λ _. refl) (λ a. refl) (λ x. refl) said x y h k

-- the answer of a result by which nothing is made
abbrev pub answer_in : Result ⊤ Answer → Answer
answer_in (Ok x) = done
answer_in (Err a) = a

-- a result that stands for its own answer: an Err refuses
abbrev pub Stands : Result ⊤ Answer → Type 0
Stands r = Passes (answer_in r) r

pub passes_answer : (said : Answer) (r : Result ⊤ Answer) → Passes said r → answer_in r ≡ said
passes_answer said (Ok x) h = h
passes_answer said (Err a) h = h.1

pub passes_stands : (said : Answer) (r : Result ⊤ Answer) → Passes said r → Stands r
passes_stands said (Ok x) h = refl
passes_stands said (Err a) h = (h.0, refl)

-- of two, the first that refuses
pub and_answer : (x y : Result ⊤ Answer) → Stands x → answer_in (result_and x y) ≡ first (answer_in x) (answer_in y)
and_answer (Ok x) y h = refl
and_answer (Err a) y h = rw h.0

pub and_stands : (x y : Result ⊤ Answer) → Stands x → Stands y → Stands (result_and x y)
and_stands (Ok x) y h k = k
and_stands (Err a) y h k = h

pub and_ok : (x : Result ⊤ Answer) → result_and x (Ok tt) ≡ x
and_ok (Ok x) = refl
and_ok (Err a) = refl

-- the answer of one that refuses, and of one that does not
pub err_refuses : (r : Result ⊤ Answer) (a : Answer) → Stands r → r ≡ Err a → Refuses a
err_refuses (Ok x) a h e = absurd (let z : ◌≡◌ {A = ℕ} 0 1 = cc in omega arith)
err_refuses (Err b) a h e = let q : b ≡ a = cc in ap is_done (sym q) ∙ h.0

-- an answer that is asked for where something holds
pub cond_err : (b : Bool) (x a : Answer) → Refuses a → a ≡ cond b x done → (b ≡ true) × (a ≡ x)
cond_err true x a r q = (refl, q)
cond_err false x a r q = absurd (not_done a r q)

pub cond_ok : (b : Bool) (x : Answer) → Refuses x → done ≡ cond b x done → b ≡ false
cond_ok true x r q = absurd (not_done x r (sym q))
cond_ok false x r q = refl
