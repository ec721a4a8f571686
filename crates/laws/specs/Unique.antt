-- Document 01, "What each contract has to decide": "Prove that two answers meeting one contract are equal". A contract is what the toolchain reads off the
-- `ensures` lines of a function (its `Post`): a claim about the arguments, the result, and what was lent, as it is at the exit. Assumes nothing.
use Rattle.std.specs.Prelude.{◌≡◌}

module _ {L : Type 0} {A R S : L → Type 0} (post : (κ : L) → A κ → R κ → S κ → Type 0) where
  -- Two results that meet it are equal.
  abbrev pub OneAnswer : Type 0
  OneAnswer = (κ : L) (a : A κ) (x y : R κ) (s t : S κ) → post κ a x s → post κ a y t → x ≡ y

  -- So is what is seen of them and of what was lent, as the words in a room.
  abbrev pub OneOf : {B : Type 0} → ((κ : L) → R κ → S κ → B) → Type 0
  OneOf seen = (κ : L) (a : A κ) (x y : R κ) (s t : S κ) → post κ a x s → post κ a y t → seen κ x s ≡ seen κ y t
