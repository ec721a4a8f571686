-- Chains of moves by any rules: what holds of all of a list before and after them, and what they add up to. Assumes nothing.
use mathlib.Core.Path.{◌≡◌, refl}
use mathlib.Core.Logic.{inr}
use mathlib.Core.List.{List, [], ◌∷◌}
use Prim.Native.Nat.{ℕ, ◌+◌, ◌≤◌}
use native.Mathlib.Omega.{arith}
use Rattle.laws.proofs.Lists.{Each}
use Rattle.rules.specs.Moves.{Phase, one, two, Rules, Move, remove, insert, swap, next, Moves, By, done, step}

pub all_zip : {E : Type 0} (P Q : E → Type 0) (s : List E) → Each P s → Each Q s → Each (λ e. P e × Q e) s
all_zip P Q [] h k = tt
all_zip P Q (e ∷ s) h k = ((h.0, k.0), all_zip P Q s h.1 k.1)

-- the sum of the numbers that f gives
abbrev pub total : {E : Type 0} → (E → ℕ) → List E → ℕ
total f [] = 0
total f (e ∷ s) = f e + total f s

module _ {E : Type 0} {may : Rules E} where
  pub lift : {φ : Phase} {b : List E} (e : E) {s t : List E} → Moves may φ (e ∷ b) s t → Moves may φ b (e ∷ s) (e ∷ t)
  lift e done = done
  lift e (step m r) = step (next m) (lift e r)

  pub chain : {φ : Phase} {b s t u : List E} → Moves may φ b s t → Moves may φ b t u → Moves may φ b s u
  chain done q = q
  chain (step m r) q = step m (chain r q)

  -- moves come by their end
  pub by_end : {φ : Phase} {b s t : List E} (r : Moves may φ b s t) → By may t r
  by_end done = refl
  by_end (step m r) = inr (by_end r)

  -- ---- what holds of all

  -- what a first move leaves was there
  pub all_one : (P : E → Type 0) {b s t : List E} → Move may one b s t → Each P s → Each P t
  all_one P (remove r) h = h.1
  all_one P (swap d) h = (h.1.0, (h.0, h.1.1))
  all_one P (next m) h = (h.0, all_one P m h.1)

  pub all_ones : (P : E → Type 0) {b s t : List E} → Moves may one b s t → Each P s → Each P t
  all_ones P done h = h
  all_ones P (step m r) h = all_ones P r (all_one P m h)

  -- what a second move finds is there after it
  all_two : (P : E → Type 0) {b s t : List E} → Move may two b s t → Each P t → Each P s
  all_two P (insert i) h = h.1
  all_two P (swap d) h = (h.1.0, (h.0, h.1.1))
  all_two P (next m) h = (h.0, all_two P m h.1)

  pub all_twos : (P : E → Type 0) {b s t : List E} → Moves may two b s t → Each P t → Each P s
  all_twos P done h = h
  all_twos P (step m r) h = all_two P m (all_twos P r h)

  -- what holds of all that may be inserted holds of all that second moves make of all
  module _ (P : E → Type 0) (new : (b : List E) (e : E) → may.Inserts b e → P e) where
    all_in : {b s t : List E} → Move may two b s t → Each P s → Each P t
    all_in (insert {b = b} {e = e} i) h = (new b e i, h)
    all_in (swap d) h = (h.1.0, (h.0, h.1.1))
    all_in (next m) h = (h.0, all_in m h.1)

    pub all_ins : {b s t : List E} → Moves may two b s t → Each P s → Each P t
    all_ins done h = h
    all_ins (step m r) h = all_ins r (all_in m h)

  -- ---- what they add up to

  module _ (f : E → ℕ) where
    -- first moves add nothing
    pub less_one : {b s t : List E} → Move may one b s t → total f t ≤ total f s
    less_one (remove r) = omega arith
    less_one (swap d) = omega arith
    less_one (next m) = let h = less_one m in omega arith

    pub less_ones : {b s t : List E} → Moves may one b s t → total f t ≤ total f s
    less_ones done = omega arith
    less_ones (step m r) = let h = less_one m in let k = less_ones r in omega arith

    -- second moves change nothing, if what may be inserted counts nothing
    module _ (none : (b : List E) (e : E) → may.Inserts b e → f e ≡ 0) where
      same_two : {b s t : List E} → Move may two b s t → total f t ≡ total f s
      same_two (insert {b = b} {e = e} i) = let h = none b e i in omega arith
      same_two (swap d) = omega arith
      same_two (next m) = let h = same_two m in omega arith

      pub same_twos : {b s t : List E} → Moves may two b s t → total f t ≡ total f s
      same_twos done = refl
      same_twos (step m r) = let h = same_two m in let k = same_twos r in omega arith

  -- ---- moves that remove only what is gone

  module _ (Gone : E → Type 0) where
    abbrev pub Strict : {φ : Phase} {b s t : List E} → Move may φ b s t → Type 0
    Strict (remove {e = e} r) = Gone e
    Strict (insert i) = Unit {0}
    Strict (swap d) = Unit {0}
    Strict (next m) = Strict m

    abbrev pub AllStrict : {φ : Phase} {b s t : List E} → Moves may φ b s t → Type 0
    AllStrict done = Unit {0}
    AllStrict (step m r) = Strict m × AllStrict r

    -- so do second moves
    strict_two : {b s t : List E} (m : Move may two b s t) → Strict m
    strict_two (insert i) = tt
    strict_two (swap d) = tt
    strict_two (next m) = strict_two m

    pub strict_twos : {b s t : List E} (r : Moves may two b s t) → AllStrict r
    strict_twos done = tt
    strict_twos (step m r) = (strict_two m, strict_twos r)
