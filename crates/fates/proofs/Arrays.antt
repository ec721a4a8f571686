-- An array as a function: what it holds when it is made, and after the cell of an event's location is set. And the array that tells of the
-- locations that had no access since the last synchronising event. Assumes nothing.
use mathlib.Core.Path.{◌≡◌, refl, sym, ◌∙◌}
use mathlib.Core.Bool.{Bool, true, false, cond, false≢true}
use mathlib.Core.List.{List, [], ◌∷◌}
use Prim.Native.Nat.{ℕ, zero, suc, ◌<◌}
use native.Mathlib.Omega.{arith}
use lib.Dec.{eqb}
use lib.ListN.{length, get_or, set, replicate, get_or-replicate}
use lib.Seq.{get_or-set_same, get_or-set_other}
use borrow.Author.Tests.{eqb-true, eqb-false, eq-eqb}
use Rattle.laws.proofs.Cases.{cases, either}
use Rattle.event.specs.Limit.{places}
use Rattle.rules.specs.View.{View, is_wall}
use Rattle.rules.specs.Fault.{Fate, Item, is_gone, is_none, item, near}
use Rattle.fates.proofs.Passes.{PlainAt, none_at, walled}

-- the cells of an array are the values of f
abbrev pub ArrayOf : {A : Type 0} (n : ℕ) (d : A) → List A → (ℕ → A) → Type 0
ArrayOf n d cells f = (l : ℕ) → l < n → get_or cells l d ≡ f l

module _ {A : Type 0} (n : ℕ) (d : A) where
  pub array_all : (v : A) (f : ℕ → A) → ((l : ℕ) → f l ≡ v) → ArrayOf n d (replicate n v) f
  array_all v f h l k = get_or-replicate n l v d k ∙ sym (h l)

  -- what changes f at p alone is held once the cell i, which is p, is set
  pub array_at : (cells : List A) (f g h : ℕ → A) {p i : ℕ} {v : A} → ((l : ℕ) → g l ≡ cond (eqb l p) (h l) (f l)) → i ≡ p → v ≡ h i
      → i < n → length cells ≡ n → ArrayOf n d cells f → ArrayOf n d (set cells i v) g
  array_at cells f g h {p} {i} {v} next e q k size holds l z =
      let w : i < length cells = omega arith in
      cases (either (eqb l i))
      (λ c. rw (eqb-true l i c) (get_or-set_same cells i v d w ∙ (q ∙ sym (next i ∙ rw (eq-eqb i p e)))))
      (λ c. get_or-set_other cells i l v d (eqb-false l i c) ∙ (holds l z ∙ sym (next l ∙ rw (← e, c))))

-- a kept entry names a number
pub kept_number : (n : ℕ) → is_gone n ≡ false → 0 < n
kept_number zero g = absurd (false≢true (sym g))
kept_number (suc n) g = omega arith

-- the locations without an access since the last synchronising event
abbrev pub Fresh : List Bool → List Item → Type 0
Fresh fresh b = ArrayOf places false fresh (λ l. is_none (near l b))

pub fresh_start : Fresh (replicate places true) []
fresh_start = array_all places false true (λ l. is_none (near l [])) (λ l. refl)

pub fresh_wall : (v : View) → is_wall v ≡ true → (f : Fate) (b : List Item) → Fresh (replicate places true) (item v f ∷ b)
fresh_wall v h f b = rw (walled v h) (λ l k. get_or-replicate {A = Bool} places l true false k)

pub fresh_plain : {v : View} {p x : ℕ} → PlainAt v p x → (f : Fate) (b : List Item) (fresh : List Bool) {i : ℕ} → i ≡ p → i < places
    → length fresh ≡ places → Fresh fresh b → Fresh (set fresh i false) (item v f ∷ b)
fresh_plain {v} w f b fresh e k size m =
    array_at places false fresh (λ l. is_none (near l b)) (λ l. is_none (near l (item v f ∷ b))) (λ l. false) (none_at w f b) e refl k size m
