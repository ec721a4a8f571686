-- The fixed order of the swaps: at the lowest adjacent inversion, as long as there is one. Each swap takes one inversion away, and where none is
-- left the items stand in the target's order; that is all that the order needs. Assumes nothing.
use mathlib.Core.Path.{◌≡◌, refl, ap}
use mathlib.Core.Logic.{◌⊎◌, inl, inr}
use mathlib.Core.Bool.{Bool, true, false}
use mathlib.Core.List.{List, [], ◌∷◌}
use Prim.Native.Nat.{ℕ, zero, suc, ◌+◌}
use native.Mathlib.Omega.{arith}
use lib.Dec.{T}
use Rattle.laws.proofs.Lists.{Each}
use Rattle.rules.specs.Fault.{above}
use Rattle.rules.proofs.Item.{gone, stays, Item, item, Above, Pull, here, there, Kept}
use Rattle.rules.proofs.Test.{if_above}
use Rattle.rules.proofs.Fixed.{Calm as CalmOf, Low as LowOf, Lows as LowsOf, low, after, calm, again}
use Rattle.rules.proofs.Order.{Exact, none_left, pick, Rising, all_match}

abbrev Calm : List Item → Type 0
Calm s = CalmOf Above s

abbrev Low : List Item → List Item → Type 0
Low s t = LowOf Above s t

abbrev Lows : List Item → List Item → Type 0
Lows s t = LowsOf Above s t

-- ---- finding it

pick_above : (e f : Item) → Above e f ⊎ (Above e f → ⊥)
pick_above e f = go (above e f) (if_above e f)
  where
    go : (c : Bool) → (T c → Above e f) × (Above e f → T c) → Above e f ⊎ (Above e f → ⊥)
    go true h = inl (h.0 tt)
    go false h = inr h.1

Found : List Item → Type 0
Found s = ((t : List Item) × Low s t) ⊎ Calm s

found : (e f : Item) (s : List Item) → Above e f ⊎ (Above e f → ⊥) → Found (f ∷ s) → Found (e ∷ f ∷ s)
unfolding Found
found e f s (inl h) r = inl (f ∷ e ∷ s, low h)
found e f s (inr h) (inl r) = inl (e ∷ r.0, after h r.1)
found e f s (inr h) (inr c) = inr (h, c)

find : (s : List Item) → Found s
unfolding Found
find [] = inr tt
find (e ∷ []) = inr tt
find (e ∷ f ∷ s) = found e f s (pick_above e f) (find (f ∷ s))

-- ---- the number of inversions falls

abbrev bit : Bool → ℕ
bit true = 1
bit false = 0

abbrev heavy : Item → Item → ℕ
heavy e f = bit (above e f)

heavy_one : (e f : Item) → Above e f → heavy e f ≡ 1
heavy_one e f h = go (above e f) ((if_above e f).1 h)
  where
    go : (c : Bool) → T c → bit c ≡ 1
    go true t = refl
    go false t = absurd t

heavy_zero : (e f : Item) → (Above e f → ⊥) → heavy e f ≡ 0
heavy_zero e f h = go (above e f) (λ t. h ((if_above e f).0 t))
  where
    go : (c : Bool) → (T c → ⊥) → bit c ≡ 0
    go true t = absurd (t tt)
    go false t = refl

pub above_asym : (e f : Item) → Above e f → Above f e → ⊥
above_asym (item v gone) f h k = absurd h
above_asym (item v (stays w n)) (item v' gone) h k = absurd h
above_asym (item v (stays w n)) (item v' (stays w' n')) h k = omega arith

cnt : Item → List Item → ℕ
cnt e [] = 0
cnt e (f ∷ s) = heavy e f + cnt e s

inv : List Item → ℕ
inv [] = 0
inv (e ∷ s) = cnt e s + inv s

cnt_low : (x : Item) {s t : List Item} → Low s t → cnt x s ≡ cnt x t
unfolding cnt
cnt_low x (low h) = omega arith
cnt_low x (after h q) = let i = cnt_low x q in omega arith

inv_low : {s t : List Item} → Low s t → inv s ≡ suc (inv t)
unfolding cnt inv
inv_low (low {e = e} {f = f} h) = let i = heavy_one e f h in let j = heavy_zero f e (above_asym e f h) in omega arith
inv_low (after {e = e} h q) = let i = inv_low q in let j = cnt_low e q in omega arith

-- ---- it ends in the target's order

data Swap : List Item → List Item → Type 0 where
  at : {e f : Item} {a : List Item} → Swap (e ∷ f ∷ a) (f ∷ e ∷ a)
  on : {e : Item} {s t : List Item} → Swap s t → Swap (e ∷ s) (e ∷ t)

swap_low : {s t : List Item} → Low s t → Swap s t
swap_low (low h) = at
swap_low (after h q) = on (swap_low q)

record Still (x : Item) (r t : List Item) : Type 0 where
  rest : List Item
  pulled : Pull x t rest
  near : (r ≡ rest) ⊎ Swap r rest

deeper : {x : Item} {r t : List Item} (e : Item) → Still x r t → Still x (e ∷ r) (e ∷ t)
deeper {r = r} e w = record { rest = e ∷ w.rest; pulled = there w.pulled; near = go w.near }
  where
    go : (r ≡ w.rest) ⊎ Swap r w.rest → (◌≡◌ {A = List Item} (e ∷ r) (e ∷ w.rest)) ⊎ Swap (e ∷ r) (e ∷ w.rest)
    go (inl q) = inl (ap (λ l. e ∷ l) q)
    go (inr q) = inr (on q)

pull_swap : {x : Item} {s r t : List Item} → Pull x s r → Swap s t → Still x r t
pull_swap here (at {f = f} {a = a}) = record { rest = f ∷ a; pulled = there here; near = inl refl }
pull_swap here (on {t = t} w) = record { rest = t; pulled = here; near = inr w }
pull_swap (there here) (at {e = e} {a = a}) = record { rest = e ∷ a; pulled = here; near = inl refl }
pull_swap (there (there {t = a} p)) (at {e = e} {f = f}) = record { rest = f ∷ e ∷ a; pulled = there (there p); near = inr at }
pull_swap (there p) (on {e = e} w) = deeper e (pull_swap p w)

exact_go : {f : Item} {r r' s t : List Item} → Pull f s r' → (r ≡ r') ⊎ Swap r r' → Exact r t → (Swap r r' → Exact r' t) → Exact s (f ∷ t)
exact_go p (inl q) m ih = pick p (rw q at m)
exact_go p (inr w) m ih = pick p (ih w)

exact_swap : {s s' t : List Item} → Exact s t → Swap s s' → Exact s' t
exact_swap none_left w = elim w [ ]
exact_swap (pick p m) w = let q = pull_swap p w in exact_go q.pulled q.near m (exact_swap m)

not_above : (e g f : Item) → Kept g → (Above e g → ⊥) → (Above g f → ⊥) → Above e f → ⊥
not_above (item v gone) g f k a b h = h
not_above (item v (stays w n)) (item v' gone) f k a b h = k
not_above (item v (stays w n)) (item v' (stays w' n')) (item v'' gone) k a b h = h
not_above (item v (stays w n)) (item v' (stays w' n')) (item v'' (stays w'' n'')) k a b h = omega arith

calm_below : {f : Item} (e : Item) {s r : List Item} → Pull f s r → Each Kept s → Calm (e ∷ s) → Above e f → ⊥
calm_below e here k c = c.0
calm_below {f = f} e (there {f = g} p) k c = not_above e g f k.0 c.0 (calm_below g p k.1 c.1)

calm_tail : (e : Item) (s : List Item) → Calm (e ∷ s) → Calm s
calm_tail e [] c = tt
calm_tail e (f ∷ s) c = c.1

calm_exact : {s t : List Item} → Exact s t → Rising t → Each Kept s → Calm s → s ≡ t
calm_exact none_left r k c = refl
calm_exact (pick {f = f} (here {s = s}) m) r k c = ap (λ l. f ∷ l) (calm_exact m r.1 k.1 (calm_tail f s c))
calm_exact (pick {f = f} (there {f = e} p) m) r k c = absurd (calm_below e p k.1 c (all_match (λ g. Above g f) m r.0).0)

all_swap : (P : Item → Type 0) {s t : List Item} → Swap s t → Each P s → Each P t
all_swap P at h = (h.1.0, (h.0, h.1.1))
all_swap P (on w) h = (h.0, all_swap P w h.1)

lows_go : {s t : List Item} → Exact s t → Rising t → Each Kept s → Found s → ((u : List Item) → Low s u → Lows u t) → Lows s t
unfolding Found
lows_go {s} m r k (inl q) ih = again q.1 (ih q.0 q.1)
lows_go {s} m r k (inr c) ih = rw (← calm_exact m r k c) (calm c)

lows : (n : ℕ) (s : List Item) {t : List Item} → inv s ≡ n → Exact s t → Rising t → Each Kept s → Lows s t
lows zero s e m r k = lows_go m r k (find s) (λ u q. let i = inv_low q in absurd (omega arith))
lows (suc n) s e m r k = lows_go m r k (find s)
    (λ u q. let i = inv_low q in lows n u (omega arith) (exact_swap m (swap_low q)) r (all_swap Kept (swap_low q) k))

pub lowest : (s : List Item) {t : List Item} → Exact s t → Rising t → Each Kept s → Lows s t
lowest s m r k = lows (inv s) s refl m r k
