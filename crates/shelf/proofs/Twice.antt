-- Document 02, C-19: to shorten twice changes nothing. Of what stays, each stays again: the shortened trace has no more accesses before it and no more stores
-- after it, and if its group begins with a load, so did the long one's, with the same. Assumes nothing.
use mathlib.Core.Path.{◌≡◌, refl, sym, ◌∙◌, ap, subst}
use mathlib.Core.Bool.{Bool, true, false, not, cond, ◌||◌, false≢true}
use mathlib.Core.Option.{Option, none, some}
use mathlib.Core.List.{List, [], ◌∷◌, map}
use Prim.Native.Nat.{ℕ, suc}
use native.Mathlib.Omega.{arith}
use lib.Dec.{T, eqb}
use lib.ListN.{length}
use Rattle.laws.proofs.Lists.{Each}
use Rattle.rules.specs.View.{View, wall, load, store}
use Rattle.rules.specs.Fault.{is_none}
use Rattle.rules.proofs.Truth.{and, and_left, and_right, or_right}
use Rattle.shelf.specs.Short.{elder, first, stored, loaded, stays, flags, pick, numbers, short}
use Rattle.shelf.proofs.First.{by_eq, elder_none}

-- ---- what is picked

pub flags_length : (b a : List View) → length (flags b a) ≡ length a
flags_length b [] = refl
flags_length b (v ∷ a) = ap suc (flags_length (v ∷ b) a)

pub numbers_length : (k : ℕ) (cs : List Bool) → length (numbers k cs) ≡ length cs
numbers_length k [] = refl
numbers_length k (true ∷ cs) = ap suc (numbers_length (suc k) cs)
numbers_length k (false ∷ cs) = ap suc (numbers_length k cs)

pub map_length : {E : Type 0} (view : E → View) (s : List E) → length (map view s) ≡ length s
map_length view [] = refl
map_length view (e ∷ s) = ap suc (map_length view s)

pub map_pick : {E : Type 0} (view : E → View) (cs : List Bool) (s : List E) → map view (pick cs s) ≡ pick cs (map view s)
map_pick view [] s = refl
map_pick view (c ∷ cs) [] = refl
map_pick view (true ∷ cs) (e ∷ s) = ap (λ (r : List View). view e ∷ r) (map_pick view cs s)
map_pick view (false ∷ cs) (e ∷ s) = map_pick view cs s

pick_all : {E : Type 0} (cs : List Bool) (s : List E) → Each T cs → length cs ≡ length s → pick cs s ≡ s
pick_all [] [] h l = refl
pick_all [] (e ∷ s) h l = absurd (omega arith)
pick_all (c ∷ cs) [] h l = absurd (omega arith)
pick_all (true ∷ cs) (e ∷ s) h l = ap (λ r. e ∷ r) (pick_all cs s h.1 (omega arith))
pick_all (false ∷ cs) (e ∷ s) h l = absurd h.0

-- ---- no more stores after

or_mono : (c d e : Bool) → (T d → T e) → T (c || d) → T (c || e)
or_mono true d e f h = tt
or_mono false d e f h = f h

stored_pick : (l : ℕ) (b a : List View) → T (stored l (pick (flags b a) a)) → T (stored l a)
stored_pick l b [] h = h
stored_pick l b (wall ∷ a) h = h
stored_pick l b (load p v u ∷ a) h = go (stays b (load p v u) a) (pick (flags (load p v u ∷ b) a) a) h (stored_pick l (load p v u ∷ b) a)
  where
    go : (c : Bool) (r : List View) → T (stored l (cond c (load p v u ∷ r) r)) → (T (stored l r) → T (stored l a)) → T (stored l a)
    go true r h f = f h
    go false r h f = f h
stored_pick l b (store p v ∷ a) h = go (stays b (store p v) a) (pick (flags (store p v ∷ b) a) a) h (stored_pick l (store p v ∷ b) a)
  where
    go : (c : Bool) (r : List View) → T (stored l (cond c (store p v ∷ r) r)) → (T (stored l r) → T (stored l a)) → T (eqb l p || stored l a)
    go true r h f = or_mono (eqb l p) (stored l r) (stored l a) f h
    go false r h f = or_right (eqb l p) (stored l a) (f h)

-- ---- no more accesses before

abbrev Thin : Option View → Option View → Type 0
Thin o o' = (T (is_none o) → T (is_none o')) × ((v : ℕ) → T (loaded v o') → T (loaded v o))

abbrev Thins : List View → List View → Type 0
Thins b c = (l : ℕ) → Thin (first l b) (first l c)

never : {X : Type 0} (o : Option View) (v : View) → T (is_none (elder o v)) → X
never o v t = absurd (subst T (elder_none o v) t)

-- an access goes
loaded_elder : (w : ℕ) (o : Option View) (x : View) → T (loaded w o) → T (loaded w (elder o x))
loaded_elder w none x t = absurd t
loaded_elder w (some y) x t = t

thin_gone : (o o' : Option View) (x : View) → Thin o o' → Thin (elder o x) o'
thin_gone o o' x h = (λ t. never o x t, λ w t. loaded_elder w o x (h.1 w t))

thins_gone : (b c : List View) (v : View) (a : List View) → stays b v a ≡ false → Thins b c → Thins (v ∷ b) c
thins_gone b c wall a e h l = absurd (false≢true (sym e))
thins_gone b c (load p v u) a e h l =
    by_eq (λ d. Thin (cond d (elder (first l b) (load p v u)) (first l b)) (first l c)) l p
    (λ _. thin_gone (first l b) (first l c) (load p v u) (h l)) (λ _. h l)
thins_gone b c (store p v) a e h l =
    by_eq (λ d. Thin (cond d (elder (first l b) (store p v)) (first l b)) (first l c)) l p
    (λ _. thin_gone (first l b) (first l c) (store p v) (h l)) (λ _. h l)

-- an access stays
thin_load : (o o' : Option View) (x : View) → T (is_none o) → Thin o o' → Thin (elder o x) (elder o' x)
thin_load none none x t h = (λ t. t, λ w t. t)
thin_load none (some y) x t h = absurd (h.0 t)
thin_load (some y) o' x t h = absurd t

thin_store : (o o' : Option View) (p v : ℕ) → Thin o o' → Thin (elder o (store p v)) (elder o' (store p v))
thin_store o o' p v h = (λ t. never o (store p v) t, λ w t. loaded_elder w o (store p v) (h.1 w (out w o' t)))
  where
    out : (w : ℕ) (n : Option View) → T (loaded w (elder n (store p v))) → T (loaded w n)
    out w none t = absurd t
    out w (some y) t = t

thins_kept : (b c : List View) (v : View) (a : List View) → T (stays b v a) → Thins b c → Thins (v ∷ b) (v ∷ c)
thins_kept b c wall a k h l = (λ t. t, λ w t. t)
thins_kept b c (load p v u) a k h l =
    by_eq (λ d. Thin (cond d (elder (first l b) (load p v u)) (first l b)) (cond d (elder (first l c) (load p v u)) (first l c))) l p
    (λ i. thin_load (first l b) (first l c) (load p v u) (rw i (and_right u (is_none (first p b)) k)) (h l)) (λ _. h l)
thins_kept b c (store p v) a k h l =
    by_eq (λ d. Thin (cond d (elder (first l b) (store p v)) (first l b)) (cond d (elder (first l c) (store p v)) (first l c))) l p
    (λ _. thin_store (first l b) (first l c) p v (h l)) (λ _. h l)

-- ---- what stays stays again

not_mono : (c d : Bool) → (T d → T c) → T (not c) → T (not d)
not_mono true d f h = absurd h
not_mono false true f h = absurd (f tt)
not_mono false false f h = tt

again : (b c : List View) (v : View) (a r : List View) → Thins b c → ((l : ℕ) → T (stored l r) → T (stored l a)) → T (stays b v a) → T (stays c v r)
again b c wall a r h f k = tt
again b c (load p v u) a r h f k =
    and u (is_none (first p c)) (and_left u (is_none (first p b)) k) ((h p).0 (and_right u (is_none (first p b)) k))
again b c (store p v) a r h f k =
    and (not (stored p r)) (not (loaded v (first p c)))
    (not_mono (stored p a) (stored p r) (f p) (and_left (not (stored p a)) (not (loaded v (first p b))) k))
    (not_mono (loaded v (first p b)) (loaded v (first p c)) ((h p).1 v) (and_right (not (stored p a)) (not (loaded v (first p b))) k))

steady : (b c a : List View) → Thins b c → Each T (flags c (pick (flags b a) a))
steady b c [] h = tt
steady b c (v ∷ a) h =
    go (stays b v a) refl (λ k. steady (v ∷ b) (v ∷ c) a (thins_kept b c v a k h)) (λ e. steady (v ∷ b) c a (thins_gone b c v a e h))
  where
    go : (y : Bool) → stays b v a ≡ y → (T (stays b v a) → Each T (flags (v ∷ c) (pick (flags (v ∷ b) a) a)))
        → (stays b v a ≡ false → Each T (flags c (pick (flags (v ∷ b) a) a)))
        → Each T (flags c (cond y (v ∷ pick (flags (v ∷ b) a) a) (pick (flags (v ∷ b) a) a)))
    go true e f g =
        let t : T (stays b v a) = rw e tt in
        (again b c v a (pick (flags (v ∷ b) a) a) h (λ l. stored_pick l (v ∷ b) a) t, f t)
    go false e f g = g e

module _ {E : Type 0} (view : E → View) where
  pub twice : (s : List E) → short view (short view s) ≡ short view s
  twice s =
      let t = short view s in
      let i : map view t ≡ pick (flags [] (map view s)) (map view s) = map_pick view (flags [] (map view s)) s in
      pick_all (flags [] (map view t)) t (rw i (steady [] [] (map view s) (λ l. (λ k. k, λ w k. k))))
      (flags_length [] (map view t) ∙ map_length view t)
