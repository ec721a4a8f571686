-- How many events stay, and what the events before have to do with it: only the first access to each location matters. Assumes nothing.
use mathlib.Core.Path.{◌≡◌, refl, ◌∙◌, ap, subst}
use mathlib.Core.Bool.{Bool, true, false, not, cond, ◌&&◌}
use mathlib.Core.Option.{Option, none, some}
use mathlib.Core.List.{List, [], ◌∷◌, map}
use Prim.Native.Nat.{ℕ, ◌+◌, ◌≤◌}
use native.Mathlib.Omega.{arith}
use lib.Dec.{T, eqb, eqb_refl}
use lib.ListN.{length}
use Rattle.rules.specs.View.{View, wall, load, store}
use Rattle.rules.specs.Fault.{is_none}
use Rattle.rules.proofs.Truth.{T_true}
use Rattle.shelf.specs.Short.{elder, first, stored, loaded, stays, flags, pick}
use Rattle.shelf.proofs.First.{nearest, by_eq, elder_none, opener, opener_elder, loaded_opener}

abbrev pub bit : Bool → ℕ
bit true = 1
bit false = 0

-- how many events stay, behind b
abbrev pub tally : List View → List View → ℕ
tally b [] = 0
tally b (v ∷ a) = bit (stays b v a) + tally (v ∷ b) a

pick_length : {E : Type 0} (c : Bool) (e : E) (r : List E) → length (cond c (e ∷ r) r) ≡ bit c + length r
pick_length true e r = omega arith
pick_length false e r = omega arith

pub tallied : {E : Type 0} (view : E → View) (b : List View) (s : List E) → length (pick (flags b (map view s)) s) ≡ tally b (map view s)
tallied view b [] = refl
tallied view b (e ∷ s) =
    let c = stays b (view e) (map view s) in
    pick_length c e (pick (flags (view e ∷ b) (map view s)) s) ∙ ap (λ n. bit c + n) (tallied view (view e ∷ b) s)

pub bit_mono : (c d : Bool) → (T c → T d) → bit c ≤ bit d
bit_mono true true h = omega arith
bit_mono true false h = absurd (h tt)
bit_mono false d h = omega arith

-- ---- two contexts

-- a location's first access in the one and in the other context, with the next access to come: where it is still to come in the one, it is in the
-- other; and what the other's group begins with, if a load, is as the one's
abbrev pub Widens : Option View → Option View → Option View → Type 0
Widens o o' n = (T (is_none o) → T (is_none o')) × ((v : ℕ) → T (loaded v (opener o' n)) → T (loaded v (opener o n)))

abbrev pub Wider : List View → List View → List View → Type 0
Wider b c a = (l : ℕ) → Widens (first l b) (first l c) (nearest l a)

pub widens_same : (o o' n : Option View) → o ≡ o' → Widens o o' n
widens_same o o' n e = rw e (λ h. h, λ v h. h)

both_and : (u c d : Bool) → (T c → T d) → T (u && c) → T (u && d)
both_and true c d f h = f h
both_and false c d f h = h

and_not : (c d e : Bool) → (T e → T d) → T (not c && not d) → T (not c && not e)
and_not true d e f h = h
and_not false true e f h = absurd h
and_not false false true f h = absurd (f tt)
and_not false false false f h = tt

-- a load is not a store, whatever came first
loaded_out : (v p w : ℕ) (o : Option View) → T (loaded v (opener o (some (store p w)))) → T (loaded v o)
loaded_out v p w none h = absurd h
loaded_out v p w (some x) h = h

pub same_place : (p : ℕ) → eqb p p ≡ true
same_place p = T_true (eqb p p) (eqb_refl p)

own : (P : Option View → Type 0) (p : ℕ) (x y : Option View) → P (cond (eqb p p) x y) → P x
own P p x y h = go (eqb p p) (eqb_refl p) h
  where
    go : (c : Bool) → T c → P (cond c x y) → P x
    go true t h = h
    go false t h = absurd t

stays_wider : (b c : List View) (v : View) (a : List View) → Wider b c (v ∷ a) → T (stays b v a) → T (stays c v a)
stays_wider b c wall a h k = tt
stays_wider b c (load p v u) a h k = both_and u (is_none (first p b)) (is_none (first p c)) (h p).0 k
stays_wider b c (store p v) a h k =
    and_not (stored p a) (loaded v (first p b)) (loaded v (first p c))
    (λ t. loaded_out v p v (first p b) (own (λ n. (v : ℕ) → T (loaded v (opener (first p c) n)) → T (loaded v (opener (first p b) n))) p
    (some (store p v)) (nearest p a) (h p).1 v (loaded_opener v (first p c) (some (store p v)) t))) k

-- both go on with the same event
widens_elder : (o o' : Option View) (v : View) (n : Option View) → Widens o o' (some v) → Widens (elder o v) (elder o' v) n
widens_elder o o' v n h = (
  λ t. absurd (subst T (elder_none o v) t),
  λ w t. rw (opener_elder o n v) (h.1 w (rw (opener_elder o' n v) at t)),
)

pub wider_next : (b c : List View) (v : View) (a : List View) → Wider b c (v ∷ a) → Wider (v ∷ b) (v ∷ c) a
wider_next b c wall a h l = (λ t. t, λ w t. t)
wider_next b c (load p v u) a h l =
    by_eq (λ d. Widens (first l b) (first l c) (cond d (some (load p v u)) (nearest l a))
    → Widens (cond d (elder (first l b) (load p v u)) (first l b)) (cond d (elder (first l c) (load p v u)) (first l c)) (nearest l a)) l p
    (λ _ k. widens_elder (first l b) (first l c) (load p v u) (nearest l a) k) (λ _ k. k) (h l)
wider_next b c (store p v) a h l =
    by_eq (λ d. Widens (first l b) (first l c) (cond d (some (store p v)) (nearest l a))
    → Widens (cond d (elder (first l b) (store p v)) (first l b)) (cond d (elder (first l c) (store p v)) (first l c)) (nearest l a)) l p
    (λ _ k. widens_elder (first l b) (first l c) (store p v) (nearest l a) k) (λ _ k. k) (h l)

-- behind the wider context no fewer stay
pub tally_wider : (a b c : List View) → Wider b c a → tally b a ≤ tally c a
tally_wider [] b c h = omega arith
tally_wider (v ∷ a) b c h =
    let i = bit_mono (stays b v a) (stays c v a) (stays_wider b c v a h) in
    let j = tally_wider a (v ∷ b) (v ∷ c) (wider_next b c v a h) in
    omega arith
