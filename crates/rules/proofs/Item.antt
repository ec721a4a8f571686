-- Items, that is views with fates, and what the theory says of them: the moves, the faults as statements, a source and a target that
-- share items. Only definitions. Assumes nothing.
use mathlib.Core.Path.{◌≡◌}
use mathlib.Core.Logic.{◌≢◌}
use mathlib.Core.Bool.{Bool, true, false}
use mathlib.Core.Option.{Option, none, some}
use mathlib.Core.List.{List, [], ◌∷◌}
use Prim.Native.Nat.{ℕ, suc, ◌<◌}
use lib.Dec.{T}
use Rattle.laws.proofs.Lists.{Each}
pub use Rattle.rules.specs.View.{View, wall, load, store, place_of, value_of, differ}
pub use Rattle.rules.specs.Moves.{Holds, Stores, Phase, one, two, remove, insert, swap, next, done, step}
pub use Rattle.rules.specs.Fault.{Fate, gone, stays, Item, item, view_of, group, near, closing, witness}
use Rattle.rules.specs.Moves.{Rules, rules, Move as MoveOf, Moves as MovesOf, Run as RunOf}
use Rattle.rules.proofs.Fixed.{Clash as ClashOf, Orderly as OrderlyOf}

abbrev pub New : Item → Type 0
New (item v gone) = ⊥
New (item v (stays w n)) = T w

-- ---- the moves, of items

-- document 01's rules
abbrev pub may : Rules Item
may = rules view_of New

abbrev pub place : Item → Option ℕ
place e = place_of (view_of e)

abbrev pub Differ : Option ℕ → Option ℕ → Type 0
Differ p q = T (differ p q)

abbrev pub Removable : List Item → Item → List Item → Type 0
Removable b e a = may.Removes b e a

abbrev pub Insertable : List Item → Item → Type 0
Insertable b e = may.Inserts b e

abbrev pub Swappable : Item → Item → Type 0
Swappable e f = may.Swaps e f

abbrev pub Move : Phase → List Item → List Item → List Item → Type 0
Move φ b s t = MoveOf may φ b s t

abbrev pub Moves : Phase → List Item → List Item → List Item → Type 0
Moves φ b s t = MovesOf may φ b s t

unfoldable pub Run : List Item → List Item → Type 0
Run s t = RunOf may s t

-- ---- faults, as statements

-- no fault 11, 13 or 14 at an item of the source
abbrev pub Sound₁ : List Item → Item → List Item → Type 0
Sound₁ b (item v (stays w n)) a = Unit {0}
Sound₁ b (item wall gone) a = ⊥
Sound₁ b (item (load p v u) gone) a = T u → near p b ≢ none
Sound₁ b (item (store p v) gone) a = T (closing (group p a)) → witness (group p b) ≡ some v

abbrev pub Sound : List Item → List Item → Type 0
Sound b [] = Unit {0}
Sound b (e ∷ a) = Sound₁ b e a × Sound (e ∷ b) a

-- both stay, and the first has the greater number
abbrev pub Above : Item → Item → Type 0
Above (item v gone) f = ⊥
Above (item v (stays w n)) (item v' gone) = ⊥
Above (item v (stays w n)) (item v' (stays w' n')) = n' < n

-- no fault 12: an earlier item has the greater number only where the two may be swapped
abbrev pub Clash : Item → Item → Type 0
Clash e f = ClashOf may Above e f

abbrev pub Orderly : List Item → Type 0
Orderly s = OrderlyOf may Above s

-- the same, looking back from each item
abbrev pub Ordered : List Item → List Item → Type 0
Ordered b [] = Unit {0}
Ordered b (x ∷ a) = Each (λ y. Clash y x) b × Ordered (x ∷ b) a

-- no fault 15 or 16 at an item of the target
abbrev pub Supported₁ : List Item → Item → Type 0
Supported₁ b (item v gone) = Unit {0}
Supported₁ b (item v (stays false n)) = Unit {0}
Supported₁ b (item wall (stays true n)) = ⊥
Supported₁ b (item (load p v u) (stays true n)) = near p b ≢ none
Supported₁ b (item (store p v) (stays true n)) = ⊥

abbrev pub Supported : List Item → List Item → Type 0
Supported b [] = Unit {0}
Supported b (e ∷ a) = Supported₁ b e × Supported (e ∷ b) a

pub record Faultless (s t : List Item) : Type 0 where
  pub lost : Sound [] s
  pub order : Orderly s
  pub extra : Supported [] t

-- ---- a source and a target

abbrev pub Gone : Item → Type 0
Gone (item v gone) = Unit {0}
Gone (item v (stays w n)) = ⊥

abbrev pub Kept : Item → Type 0
Kept (item v gone) = ⊥
Kept (item v (stays w n)) = Unit {0}

abbrev pub keep : List Item → List Item
keep [] = []
keep (item v gone ∷ s) = keep s
keep (item v (stays w n) ∷ s) = item v (stays w n) ∷ keep s

-- the items of a target that the source has
abbrev pub sourced : List Item → List Item
sourced [] = []
sourced (item v gone ∷ t) = sourced t
sourced (item v (stays true n) ∷ t) = sourced t
sourced (item v (stays false n) ∷ t) = item v (stays false n) ∷ sourced t

-- none is gone, and each stands at its number
abbrev pub Numbered : ℕ → List Item → Type 0
Numbered n [] = Unit {0}
Numbered n (item v gone ∷ t) = ⊥
Numbered n (item v (stays w m) ∷ t) = (m ≡ n) × Numbered (suc n) t

-- the same but for the mark of a load that stays
pub data Like : Item → Item → Type 0 where
  unchanged : {e : Item} → Like e e
  marks : {p v : ℕ} {u u' : Bool} {w : Bool} {n : ℕ} → Like (item (load p v u) (stays w n)) (item (load p v u') (stays w n))

pub data Likes : List Item → List Item → Type 0 where
  like_nil : Likes [] []
  like_cons : {e f : Item} {s t : List Item} → Like e f → Likes s t → Likes (e ∷ s) (f ∷ t)

-- e taken out of a list
pub data Pull (e : Item) : List Item → List Item → Type 0 where
  here : {s : List Item} → Pull e (e ∷ s) s
  there : {f : Item} {s t : List Item} → Pull e s t → Pull e (f ∷ s) (f ∷ t)

-- the same items but for marks, in some order
pub data Match : List Item → List Item → Type 0 where
  none_left : Match [] []
  pick : {e f : Item} {s s' t : List Item} → Pull e s s' → Like e f → Match s' t → Match s (f ∷ t)

-- a run from s ends at t, but for marks
unfoldable pub Reaches : List Item → List Item → Type 0
Reaches s t = (u : List Item) × Likes u t × Run s u
