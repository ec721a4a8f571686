-- The tests of what may be removed, swapped and inserted are the rules' statements. Assumes nothing.
use mathlib.Core.Path.{◌≡◌, refl, subst}
use mathlib.Core.Logic.{◌⊎◌, inl, inr}
use mathlib.Core.Bool.{Bool, true, false, ◌&&◌, ◌||◌}
use mathlib.Core.Option.{Option, none, some}
use mathlib.Core.List.{List}
use Prim.Native.Nat.{ℕ}
use lib.Dec.{T, eqb, eqb→eq, eqb_refl}
use Rattle.rules.specs.View.{View, wall, load, store, value_of}
use Rattle.rules.specs.Moves.{Holds, Stores, Removable, Insertable, near}
use Rattle.changes.specs.Allowed.{holds, stores, may_remove, may_insert}

-- a test is false if it does not hold, and both of two if they exclude one another
pub not_so : (c : Bool) → (T c → ⊥) → c ≡ false
not_so true h = absurd (h tt)
not_so false h = refl

pub not_both : (c d : Bool) → (T c → T d → ⊥) → (c && d) ≡ false
not_both true d h = not_so d (h tt)
not_both false d h = refl

pub both : (c d : Bool) → T c → T d → (c && d) ≡ true
both true true h k = refl
both true false h k = absurd k
both false d h k = absurd h

if_holds : (v : ℕ) (o : Option View) → (T (holds v o) → Holds v o) × (Holds v o → T (holds v o))
if_holds v none = (λ h. h, λ h. h)
if_holds v (some x) = (eqb→eq (value_of x) v, λ e. subst (λ z. T (eqb (value_of x) z)) e (eqb_refl (value_of x)))

if_stores : (o : Option View) → (T (stores o) → Stores o) × (Stores o → T (stores o))
if_stores none = (λ h. h, λ h. h)
if_stores (some wall) = (λ h. h, λ h. h)
if_stores (some (load p v u)) = (λ h. h, λ h. h)
if_stores (some (store p v)) = (λ h. h, λ h. h)

if_or : (c d : Bool) {X Y : Type 0} → (T c → X) × (X → T c) → (T d → Y) × (Y → T d) → (T (c || d) → X ⊎ Y) × (X ⊎ Y → T (c || d))
if_or true d f g = (λ h. inl (f.0 tt), λ h. tt)
if_or false d f g = (λ h. inr (g.0 h), elim [ inl x ↦ absurd (f.1 x) | inr y ↦ g.1 y ])

module _ {E : Type 0} (view : E → View) where
  pub if_removable : (b : List E) (x : View) (a : List E) → (T (may_remove view b x a) → Removable view b x a) × (Removable view b x a
      → T (may_remove view b x a))
  if_removable b wall a = (λ h. h, λ h. h)
  if_removable b (load p v true) a = if_holds v (near view p b)
  if_removable b (load p v false) a = (λ h. h, λ h. h)
  if_removable b (store p v) a = if_or (holds v (near view p b)) (stores (near view p a)) (if_holds v (near view p b)) (if_stores (near view p a))

  pub if_insertable : (b : List E) (x : View) → (T (may_insert view b x) → Insertable view b x) × (Insertable view b x → T (may_insert view b x))
  if_insertable b wall = (λ h. h, λ h. h)
  if_insertable b (load p v u) = if_holds v (near view p b)
  if_insertable b (store p v) = (λ h. h, λ h. h)
