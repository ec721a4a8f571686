-- The target, but for marks, and what the source and the target share. A run that ends with as many shared items as it began with has removed
-- none of them, so it removes only what is gone. Assumes nothing.
use Rattle.rules.proofs.Order
use mathlib.Core.Path.{◌≡◌, refl, ap₂}
use mathlib.Core.Logic.{◌≢◌}
use mathlib.Core.Bool.{true, false, not}
use mathlib.Core.Option.{none}
use mathlib.Core.List.{List, [], ◌∷◌}
use Prim.Native.Nat.{ℕ, suc, ◌+◌, ◌≤◌}
use native.Mathlib.Omega.{arith}
use lib.Dec.{T}
use Rattle.laws.proofs.Lists.{Each}
use Rattle.rules.proofs.Item.{View, gone, stays, Item, item, one, two, Move, remove, swap, next, Moves, done, step, Supported₁, Supported}
use Rattle.rules.proofs.Item.{keep, sourced, Numbered, Like, unchanged, marks, Likes, like_nil, like_cons, Pull, here, there, Match, none_left, pick}
use Rattle.rules.proofs.Item.{Gone, New}
use Rattle.rules.proofs.Place.{letter, near_at, word, Agrees}
use Rattle.rules.proofs.Order.{Exact, all_unpull}
use Rattle.rules.proofs.Insertion.{near_more, supported₁_more}
use Rattle.rules.proofs.Chain.{all_one, total, less_one, less_ones, same_twos, Strict, AllStrict}
use Rattle.rules.proofs.Image.{Over, over_cons, over_nil}

-- ---- likeness

like_sym : {e f : Item} → Like e f → Like f e
like_sym unchanged = unchanged
like_sym marks = marks

pub likes_sym : {s t : List Item} → Likes s t → Likes t s
likes_sym like_nil = like_nil
likes_sym (like_cons q r) = like_cons (like_sym q) (likes_sym r)

letter_like : (l : ℕ) {e f : Item} → Like e f → letter l e ≡ letter l f
letter_like l unchanged = refl
letter_like l marks = refl

pub word_like : (l : ℕ) {s t : List Item} → Likes s t → word l s ≡ word l t
word_like l like_nil = refl
word_like l (like_cons q r) = ap₂ ◌∷◌ (letter_like l q) (word_like l r)

numbered₁ : (i : ℕ) {e f : Item} (s t : List Item) → Like e f → (Numbered (suc i) t → Numbered (suc i) s) → Numbered i (f ∷ t) → Numbered i (e ∷ s)
numbered₁ i s t (unchanged {e = item v gone}) k h = absurd h
numbered₁ i s t (unchanged {e = item v (stays w n)}) k h = (h.0, k h.1)
numbered₁ i s t marks k h = (h.0, k h.1)

pub numbered_like : (i : ℕ) {s t : List Item} → Likes s t → Numbered i t → Numbered i s
numbered_like i like_nil h = tt
numbered_like i (like_cons {s = s} {t = t} q r) h = numbered₁ i s t q (numbered_like (suc i) r) h

supported₁ : (b : List Item) {e f : Item} → Like e f → Supported₁ b f → Supported₁ b e
supported₁ b unchanged h = h
supported₁ b (marks {w = true}) h = h
supported₁ b (marks {w = false}) h = tt

pub supported_like : (b c : List Item) {s t : List Item} → ((l : ℕ) → near_at l b ≢ none → near_at l c ≢ none) → Likes s t → Supported b t → Supported c s
supported_like b c g like_nil h = tt
supported_like b c g (like_cons {e = e} {f = f} q r) h = (
  supported₁ c q (supported₁_more b c f g h.0),
  supported_like (f ∷ b) (e ∷ c) (λ l k. rw (letter_like l q) (near_more (letter l f) (near_at l b) (near_at l c) (g l) k)) r h.1,
)

-- ---- the target with the marks of the source

sourced_like : {e : Item} {v : View} {n : ℕ} (u : List Item) → Like e (item v (stays false n)) → sourced (e ∷ u) ≡ e ∷ sourced u
sourced_like u unchanged = refl
sourced_like u marks = refl

-- an item of the target, or one that the source has and is like it
pub data Print : Item → Item → Type 0 where
  exact : {e : Item} → Print e e
  kept : {e f : Item} → Like e f → (New f → ⊥) → Print e f

pub print_like : {e f : Item} → Print e f → Like e f
print_like exact = unchanged
print_like (kept q w) = q

pub prints_likes : {s t : List Item} → Over Print s t → Likes s t
prints_likes over_nil = like_nil
prints_likes (over_cons q r) = like_cons (print_like q) (prints_likes r)

pub print : {s : List Item} (t : List Item) → Match s (sourced t) → (u : List Item) × Over Print u t × Exact s (sourced u)
print [] none_left = ([], over_nil, Order.none_left)
print (item v gone ∷ t) m = let r = print t m in (item v gone ∷ r.0, over_cons exact r.1, r.2)
print (item v (stays true n) ∷ t) m = let r = print t m in (item v (stays true n) ∷ r.0, over_cons exact r.1, r.2)
print (item v (stays false n) ∷ t) (pick {e = e} p q m) =
    let r = print t m in (e ∷ r.0, over_cons (kept q (λ w. w)) r.1, rw (sourced_like r.0 q) (Order.pick p r.2))

-- ---- the source has nothing new

abbrev pub NotNew : Item → Type 0
NotNew (item v gone) = Unit {0}
NotNew (item v (stays w n)) = T (not w)

not_new_sourced : (t : List Item) → Each NotNew (sourced t)
not_new_sourced [] = tt
not_new_sourced (item v gone ∷ t) = not_new_sourced t
not_new_sourced (item v (stays true n) ∷ t) = not_new_sourced t
not_new_sourced (item v (stays false n) ∷ t) = (tt, not_new_sourced t)

not_new_keep : (s : List Item) → Each NotNew (keep s) → Each NotNew s
not_new_keep [] h = tt
not_new_keep (item v gone ∷ s) h = (tt, not_new_keep s h)
not_new_keep (item v (stays w n) ∷ s) h = (h.0, not_new_keep s h.1)

not_new_like : {e f : Item} → Like e f → NotNew f → NotNew e
not_new_like unchanged h = h
not_new_like marks h = h

not_new_match : {s t : List Item} → Match s t → Each NotNew t → Each NotNew s
not_new_match none_left h = tt
not_new_match (pick p q m) h = all_unpull NotNew p (not_new_like q h.0) (not_new_match m h.1)

pub not_new : (s t : List Item) → Match (keep s) (sourced t) → Each NotNew s
not_new s t m = not_new_keep s (not_new_match m (not_new_sourced t))

-- ---- a run that ends with as many as it began with has removed none of them

abbrev weight : Item → ℕ
weight (item v gone) = 0
weight (item v (stays true n)) = 0
weight (item v (stays false n)) = 1

abbrev size : List Item → ℕ
size s = total weight s

size_keep : (s : List Item) → size (keep s) ≡ size s
size_keep [] = refl
size_keep (item v gone ∷ s) = let h = size_keep s in omega arith
size_keep (item v (stays w n) ∷ s) = let h = size_keep s in omega arith

size_sourced : (t : List Item) → size (sourced t) ≡ size t
size_sourced [] = refl
size_sourced (item v gone ∷ t) = let h = size_sourced t in omega arith
size_sourced (item v (stays true n) ∷ t) = let h = size_sourced t in omega arith
size_sourced (item v (stays false n) ∷ t) = let h = size_sourced t in omega arith

weight_like : {e f : Item} → Like e f → weight e ≡ weight f
weight_like unchanged = refl
weight_like (marks {w = true}) = refl
weight_like (marks {w = false}) = refl

size_likes : {s t : List Item} → Likes s t → size s ≡ size t
size_likes like_nil = refl
size_likes (like_cons q r) = let h = size_likes r in let k = weight_like q in omega arith

size_pull : {e : Item} {s t : List Item} → Pull e s t → size s ≡ weight e + size t
size_pull here = refl
size_pull (there p) = let h = size_pull p in omega arith

size_match : {s t : List Item} → Match s t → size s ≡ size t
size_match none_left = refl
size_match (pick p q m) = let h = size_match m in let k = weight_like q in let i = size_pull p in omega arith

-- what is new weighs nothing
new_weight : (e : Item) → New e → weight e ≡ 0
new_weight (item v gone) w = refl
new_weight (item v (stays true n)) w = refl
new_weight (item v (stays false n)) w = absurd w

light : (e : Item) → NotNew e → weight e ≤ 0 → Gone e
light (item v gone) w h = tt
light (item v (stays true n)) w h = absurd w
light (item v (stays false n)) w h = absurd (omega arith)

strict : {b s t : List Item} (m : Move one b s t) → Each NotNew s → size s ≤ size t → Strict Gone m
strict (remove {e = e} r) w h = light e w.0 (omega arith)
strict (swap d) w h = tt
strict (next m) w h = strict m w.1 (omega arith)

stricts : {b s t : List Item} (r : Moves one b s t) → Each NotNew s → size s ≤ size t → AllStrict Gone r
stricts done w h = tt
stricts (step m r) w h =
    let k = less_one weight m in let i = less_ones weight r in
    (strict m w (omega arith), stricts r (all_one NotNew m w) (omega arith))

pub all_strict : {s m u : List Item} (t : List Item) (r : Moves one [] s m) → Moves two [] m u → Likes u t → Match (keep s) (sourced t) → AllStrict Gone r
all_strict {s} t r q k m =
    let a = size_match m in let b = size_keep s in let c = size_sourced t in let d = size_likes k in
    let e = same_twos weight (λ b e i. new_weight e i.0) q in
    stricts r (not_new s t m) (omega arith)

-- what the theorem asks of a source and a target
pub record Given (s t : List Item) : Type 0 where
  pub source : Agrees s
  pub target : Agrees t
  pub numbered : Numbered 1 t
  pub matched : Match (keep s) (sourced t)
