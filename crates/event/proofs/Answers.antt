-- Laws of answers. What refuses with one of some numbers, one side and a place from 1 on is in the table if the table has these numbers so, which is
-- one test. Assumes nothing.
use Prim.Native.Nat.{ℕ, ◌≤◌}
use mathlib.Core.Bool.{Bool, true, false, not, cond, ◌&&◌, false≢true}
use mathlib.Core.List.{List, []}
use mathlib.Core.Logic.{◌⊎◌}
use mathlib.Core.Path.{◌≡◌, refl, sym, ◌∙◌}
use lib.Dec.{eqb}
use lib.ListN.{get_or, length}
use borrow.Author.Tests.{eqb-false, le-leb, not-true}
use Rattle.laws.proofs.Bools.{and_left, and_right}
use Rattle.laws.proofs.Cases.{by_cond, cases, either}
use Rattle.laws.proofs.Lists.{every}
use Rattle.laws.specs.Has.{has}
use Rattle.laws.proofs.Has.{has_every}
use Rattle.event.specs.Answer.{answer, done, first, answers, InTable, Where, nowhere, ordinal, location, amount}
use Rattle.event.specs.declared.Answer.{Answer}

-- the table has the numbers 0 to 22
all_rows : length answers ≡ 23
all_rows = refl

-- the table has a number with a side and a place from 1 on
abbrev pub is_ordinal : Where → Bool
is_ordinal nowhere = false
is_ordinal ordinal = true
is_ordinal location = false
is_ordinal amount = false

an_ordinal : (w : Where) → is_ordinal w ≡ true → w ≡ ordinal
an_ordinal ordinal h = refl
an_ordinal nowhere h = absurd (false≢true h)
an_ordinal location h = absurd (false≢true h)
an_ordinal amount h = absurd (false≢true h)

abbrev pub ranked : ℕ → ℕ → Bool
ranked side n = let r = get_or answers n ([], nowhere) in has side r.0 && is_ordinal r.1

-- no refusal, or one of these numbers with this side, at a place from 1 on
pub data Given (ns : List ℕ) (side : ℕ) : Answer → Type 0 where
  none : Given ns side done
  one : {n p : ℕ} → has n ns ≡ true → 1 ≤ p → Given ns side (answer n side p)

module _ (ns : List ℕ) (side : ℕ) where
  -- one of two
  pub given_cond : (c : Bool) {a b : Answer} → Given ns side a → Given ns side b → Given ns side (cond c a b)
  given_cond c h k = by_cond (Given ns side) c h k

  pub given_first : {a b : Answer} → Given ns side a → Given ns side b → Given ns side (first a b)
  given_first {a} {b} h k = given_cond (eqb a.number 0) k h

  -- a fault of a number that is 0 or one of these, and what comes after it where it is none
  pub given_fault : (n p : ℕ) {a : Answer} → (n ≡ 0) ⊎ (has n ns ≡ true) → 1 ≤ p → Given ns side a → Given ns side (cond (eqb n 0) a (answer n side p))
  given_fault n p {a} z h k =
      cases (either (eqb n 0)) (λ e. rw e k)
      (λ e. cases z (λ (i : n ≡ 0). absurd (eqb-false n 0 e i)) (λ (i : has n ns ≡ true). rw e (one i h)))

  -- it is in the table, if the table has each of these numbers with this side and a place from 1 on
  pub given_in : {a : Answer} → every (ranked side) ns ≡ true → Given ns side a → InTable a
  given_in t none = refl
  given_in t (one {n = n} {p = p} h q) =
      let row = get_or answers n ([], nowhere) in
      let r = has_every (ranked side) ns t n h in
      let i : has side row.0 ≡ true = and_left _ _ r in
      let j : row.1 ≡ ordinal = an_ordinal _ (and_right (has side row.0) _ r) in
      rw (i, j) (le-leb 1 p q)

-- of more numbers too
pub given_more : (ns ms : List ℕ) (side : ℕ) {a : Answer} → every (λ n. has n ms) ns ≡ true → Given ns side a → Given ms side a
given_more ns ms side t none = none
given_more ns ms side t (one {n = n} h q) = one (has_every (λ k. has k ms) ns t n h) q

pub in_cond : (c : Bool) (a b : Answer) → InTable a → InTable b → InTable (cond c a b)
in_cond c a b h k = by_cond InTable c h k

pub in_first : (a b : Answer) → InTable a → InTable b → InTable (first a b)
in_first a b h k = in_cond (eqb a.number 0) b a k h

-- no refusal, or one of these numbers
pub data Among (ns : List ℕ) : Answer → Type 0 where
  none : Among ns done
  one : {n s p : ℕ} → has n ns ≡ true → Among ns (answer n s p)

module _ (ns : List ℕ) where
  pub among_cond : (c : Bool) {a b : Answer} → Among ns a → Among ns b → Among ns (cond c a b)
  among_cond c h k = by_cond (Among ns) c h k

  pub among_first : (a b : Answer) → Among ns a → Among ns b → Among ns (first a b)
  among_first a b h k = among_cond (eqb a.number 0) k h

  -- of more numbers too
  pub among_more : (ms : List ℕ) {a : Answer} → every (λ n. has n ms) ns ≡ true → Among ns a → Among ms a
  among_more ms t none = none
  among_more ms t (one {n = n} h) = one (has_every (λ k. has k ms) ns t n h)

  -- the number 0 is no refusal
  pub among_done : {a : Answer} → has 0 ns ≡ false → Among ns a → a.number ≡ 0 → a ≡ done
  among_done z none e = refl
  among_done z (one h) e = absurd (false≢true (sym z ∙ rw e at h))

  -- its number is none of some others, if none of these is
  pub among_not : (os : List ℕ) {a : Answer} → has 0 os ≡ false → every (λ n. not (has n os)) ns ≡ true → Among ns a → has a.number os ≡ false
  among_not os z d none = z
  among_not os z d (one {n = n} h) = not-true _ (has_every (λ k. not (has k os)) ns d n h)

  -- or it is one of them
  pub among_has : {a : Answer} → Among ns a → (a.number ≡ 0 → ⊥) → has a.number ns ≡ true
  among_has none e = absurd (e refl)
  among_has (one h) e = h

  pub given_among : (side : ℕ) {a : Answer} → Given ns side a → Among ns a
  given_among side none = none
  given_among side (one h p) = one h
