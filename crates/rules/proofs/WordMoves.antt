-- What moves do to a word: they keep its loads in agreement, a word is accepted if what a move makes of it is, and a word with nothing gone
-- is accepted. Where nothing may be removed from an accepted word nothing is gone, and to remove the last makes no fault. Assumes nothing.
use mathlib.Core.Path.{◌≡◌, refl, sym, ◌∙◌, ap}
use mathlib.Core.Logic.{◌⊎◌, inl, inr, ◌≢◌}
use mathlib.Core.Bool.{Bool, true, false, not}
use mathlib.Core.Option.{Option, none, some}
use mathlib.Core.List.{List, [], ◌∷◌}
use Prim.Native.Nat.{ℕ}
use lib.Dec.{T}
use Rattle.rules.proofs.Word.{Letter, far, a_wall, kept_load, kept_store, gone_load, gone_store, near_word}
use Rattle.rules.proofs.Word.{stores_word, witness_word, fits, Agree, Ok, first_unused, some≢none}
use Rattle.rules.proofs.Word.{none≢some}

-- ---- moves of words

-- a gone letter may be removed
abbrev pub Cut : List Letter → Letter → List Letter → Type 0
Cut b far a = Unit {0}
Cut b (a_wall d) a = ⊥
Cut b (kept_load v) a = ⊥
Cut b (kept_store v) a = ⊥
Cut b (gone_load v true) a = near_word b ≡ some v
Cut b (gone_load v false) a = Unit {0}
Cut b (gone_store v) a = (near_word b ≡ some v) ⊎ T (stores_word a)

-- at least one of two letters is far
pub data Apart : Letter → Letter → Type 0 where
  left : {y : Letter} → Apart far y
  right : {x : Letter} → Apart x far

pub data Step : List Letter → List Letter → List Letter → Type 0 where
  cut : {b : List Letter} {x : Letter} {a : List Letter} → Cut b x a → Step b (x ∷ a) a
  flip : {b : List Letter} {x y : Letter} {a : List Letter} → Apart x y → Step b (x ∷ y ∷ a) (y ∷ x ∷ a)
  on : {b : List Letter} {x : Letter} {s t : List Letter} → Step (x ∷ b) s t → Step b (x ∷ s) (x ∷ t)

-- ---- a move keeps agreement

agree_none : (v : ℕ) (s : List Letter) → Agree (some v) s → Agree none s
agree_none w [] g = tt
agree_none w (far ∷ s) g = (tt, agree_none w s g.1)
agree_none w (a_wall d ∷ s) g = g
agree_none w (kept_load v ∷ s) g = (tt, g.1)
agree_none w (kept_store v ∷ s) g = g
agree_none w (gone_load v u ∷ s) g = (tt, g.1)
agree_none w (gone_store v ∷ s) g = g

agree_stores : (n m : Option ℕ) (s : List Letter) → T (stores_word s) → Agree n s → Agree m s
agree_stores n m [] o g = tt
agree_stores n m (far ∷ s) o g = (tt, agree_stores n m s o g.1)
agree_stores n m (a_wall d ∷ s) o g = g
agree_stores n m (kept_load v ∷ s) o g = absurd o
agree_stores n m (kept_store v ∷ s) o g = g
agree_stores n m (gone_load v u ∷ s) o g = absurd o
agree_stores n m (gone_store v ∷ s) o g = g

-- a load with a value before it says nothing new
agree_load : (n : Option ℕ) (v : ℕ) (s : List Letter) → fits n v → Agree (some v) s → Agree n s
agree_load none v s f g = agree_none v s g
agree_load (some m) v s f g = rw f g

agree_cut : (b : List Letter) (x : Letter) (a : List Letter) → Cut b x a → Agree (near_word b) (x ∷ a) → Agree (near_word b) a
agree_cut b far a c g = g.1
agree_cut b (a_wall d) a c g = absurd c
agree_cut b (kept_load v) a c g = absurd c
agree_cut b (kept_store v) a c g = absurd c
agree_cut b (gone_load v u) a c g = agree_load (near_word b) v a g.0 g.1
agree_cut b (gone_store v) a (inl e) g = rw e g.1
agree_cut b (gone_store v) a (inr o) g = agree_stores (some v) (near_word b) a o g.1

pub agree_step : {b s t : List Letter} → Step b s t → Agree (near_word b) s → Agree (near_word b) t
agree_step (cut {b = b} {x = x} {a = a} c) g = agree_cut b x a c g
agree_step (flip left) g = (g.1.0, (tt, g.1.1))
agree_step (flip right) g = (tt, (g.0, g.1.1))
agree_step (on m) g = (g.0, agree_step m g.1)

-- ---- a word is accepted if what a move makes of it is

-- to know more does no harm
ok_more : (u : ℕ) (k : Option ℕ) (s : List Letter) → Ok (some u) none s → Ok (some u) k s
ok_more u k [] h = none≢some h
ok_more u k (far ∷ s) h = (tt, ok_more u k s h.1)
ok_more u k (a_wall d ∷ s) h = none≢some h.0.1
ok_more u k (kept_load v ∷ s) h = none≢some h.0
ok_more u k (kept_store v ∷ s) h = h
ok_more u k (gone_load v d ∷ s) h = (tt, ok_more v k s h.1)
ok_more u k (gone_store v ∷ s) h = (tt, ok_more v k s h.1)

ok_first : (v : ℕ) (s : List Letter) → Agree (some v) s → Ok none none s → Ok (some v) (some v) s
ok_first v [] g h = refl
ok_first v (far ∷ s) g h = (tt, ok_first v s g.1 h.1)
ok_first v (a_wall d ∷ s) g h = ((h.0.0, refl), h.1)
ok_first v (kept_load u ∷ s) g h = (refl, h.1)
ok_first v (kept_store u ∷ s) g h = h
ok_first v (gone_load u d ∷ s) g h = (tt, rw g.0 h.1)
ok_first v (gone_store u ∷ s) g h = (tt, ok_more u (some v) s h.1)

ok_stores : (n m k : Option ℕ) (s : List Letter) → T (stores_word s) → Ok n k s → Ok m k s
ok_stores n m k [] o h = absurd o
ok_stores n m k (far ∷ s) o h = (tt, ok_stores n m k s o h.1)
ok_stores n m k (a_wall d ∷ s) o h = absurd o
ok_stores n m k (kept_load v ∷ s) o h = absurd o
ok_stores n m k (kept_store v ∷ s) o h = h
ok_stores n m k (gone_load v u ∷ s) o h = absurd o
ok_stores n m k (gone_store v ∷ s) o h = h

fresh : (b : List Letter) → near_word b ≡ none → witness_word b ≡ none
fresh [] e = refl
fresh (far ∷ b) e = fresh b e
fresh (a_wall d ∷ b) e = refl
fresh (kept_load v ∷ b) e = some≢none e
fresh (kept_store v ∷ b) e = some≢none e
fresh (gone_load v u ∷ b) e = some≢none e
fresh (gone_store v ∷ b) e = some≢none e

ok_load : (n k : Option ℕ) (v : ℕ) (u : Bool) (a : List Letter) → (n ≡ none → k ≡ none) → (T u → n ≢ none) → fits n v → Agree (some v) a
    → Ok n k a → Ok n k (gone_load v u ∷ a)
ok_load none k v true a e c f g h = absurd (c tt refl)
ok_load none k v false a e c f g h = (tt, ok_first v a g (rw (e refl) at h))
ok_load (some m) k v u a e c f g h = (tt, rw f at h)

ok_cut : (b : List Letter) (x : Letter) (a : List Letter) → Cut b x a → Agree (near_word b) (x ∷ a) → Ok (near_word b) (witness_word b) a
    → Ok (near_word b) (witness_word b) (x ∷ a)
ok_cut b far a c g h = (tt, h)
ok_cut b (a_wall d) a c g h = absurd c
ok_cut b (kept_load v) a c g h = absurd c
ok_cut b (kept_store v) a c g h = absurd c
ok_cut b (gone_load v true) a c g h = ok_load (near_word b) (witness_word b) v true a (fresh b) (λ _ e. some≢none (sym c ∙ e)) g.0 g.1 h
ok_cut b (gone_load v false) a c g h = ok_load (near_word b) (witness_word b) v false a (fresh b) (λ t. absurd t) g.0 g.1 h
ok_cut b (gone_store v) a (inl e) g h = (tt, rw e at h)
ok_cut b (gone_store v) a (inr o) g h = (tt, ok_stores (near_word b) (some v) (witness_word b) a o h)

pub ok_step : {b s t : List Letter} → Step b s t → Agree (near_word b) s → Ok (near_word b) (witness_word b) t → Ok (near_word b) (witness_word b) s
ok_step (cut {b = b} {x = x} {a = a} c) g h = ok_cut b x a c g h
ok_step (flip left) g h = (tt, (h.0, h.1.1))
ok_step (flip right) g h = (h.1.0, (tt, h.1.1))
ok_step (on m) g h = (h.0, ok_step m g.1 h.1)

-- a word with nothing gone is accepted
abbrev pub Stays : Letter → Type 0
Stays far = Unit {0}
Stays (a_wall d) = T (not d)
Stays (kept_load v) = Unit {0}
Stays (kept_store v) = Unit {0}
Stays (gone_load v u) = ⊥
Stays (gone_store v) = ⊥

abbrev pub AllStay : List Letter → Type 0
AllStay [] = Unit {0}
AllStay (x ∷ s) = Stays x × AllStay s

pub ok_stay : (n : Option ℕ) (s : List Letter) → AllStay s → Ok n n s
ok_stay n [] h = refl
ok_stay n (far ∷ s) h = (tt, ok_stay n s h.1)
ok_stay n (a_wall d ∷ s) h = ((h.0, refl), ok_stay none s h.1)
ok_stay n (kept_load v ∷ s) h = (refl, ok_stay (some v) s h.1)
ok_stay n (kept_store v ∷ s) h = (tt, ok_stay (some v) s h.1)
ok_stay n (gone_load v u ∷ s) h = absurd h.0
ok_stay n (gone_store v ∷ s) h = absurd h.0

-- ---- where no gone letter may be removed, none is gone

abbrev pub Stuck₁ : List Letter → Letter → List Letter → Type 0
Stuck₁ b far a = Unit {0}
Stuck₁ b (a_wall d) a = Unit {0}
Stuck₁ b (kept_load v) a = Unit {0}
Stuck₁ b (kept_store v) a = Unit {0}
Stuck₁ b (gone_load v u) a = Cut b (gone_load v u) a → ⊥
Stuck₁ b (gone_store v) a = Cut b (gone_store v) a → ⊥

abbrev pub Stuck : List Letter → List Letter → Type 0
Stuck b [] = Unit {0}
Stuck b (x ∷ a) = Stuck₁ b x a × Stuck (x ∷ b) a

load_cut : (b : List Letter) (v : ℕ) (u : Bool) (a : List Letter) → fits (near_word b) v → first_unused (near_word b) u → Cut b (gone_load v u) a
load_cut b v false a f g = tt
load_cut b v true a f g = go (near_word b) f g
  where
    go : (n : Option ℕ) → fits n v → first_unused n true → n ≡ some v
    go none f g = absurd g
    go (some m) f g = ap some f

-- after a store of v either the witness has its value or the next access is a store
settled : (v : ℕ) (k : Option ℕ) (b a : List Letter) → near_word b ≡ some v → Stuck b a → Agree (near_word b) a → Ok (near_word b) k a
    → (k ≡ some v) ⊎ T (stores_word a)
settled v k b [] e r g h = inl (h ∙ e)
settled v k b (far ∷ a) e r g h = settled v k (far ∷ b) a e r.1 g.1 h.1
settled v k b (a_wall d ∷ a) e r g h = inl (h.0.1 ∙ e)
settled v k b (kept_load x ∷ a) e r g h = inl (h.0 ∙ e)
settled v k b (kept_store x ∷ a) e r g h = inr tt
settled v k b (gone_load x u ∷ a) e r g h = absurd (r.0 (load_cut b x u a g.0 h.0))
settled v k b (gone_store x ∷ a) e r g h = inr tt

pub all_stay : (b a : List Letter) → witness_word b ≡ near_word b → Stuck b a → Agree (near_word b) a → Ok (near_word b) (witness_word b) a → AllStay a
all_stay b [] c r g h = tt
all_stay b (far ∷ a) c r g h = (tt, all_stay (far ∷ b) a c r.1 g.1 h.1)
all_stay b (a_wall d ∷ a) c r g h = (h.0.0, all_stay (a_wall d ∷ b) a refl r.1 g.1 h.1)
all_stay b (kept_load v ∷ a) c r g h = (tt, all_stay (kept_load v ∷ b) a refl r.1 g.1 h.1)
all_stay b (kept_store v ∷ a) c r g h = (tt, all_stay (kept_store v ∷ b) a refl r.1 g.1 h.1)
all_stay b (gone_load v u ∷ a) c r g h = absurd (r.0 (load_cut b v u a g.0 h.0))
all_stay b (gone_store v ∷ a) c r g h = absurd (r.0 (go (settled v (witness_word b) (gone_store v ∷ b) a refl r.1 g.1 h.1)))
  where
    go : (witness_word b ≡ some v) ⊎ T (stores_word a) → (near_word b ≡ some v) ⊎ T (stores_word a)
    go (inl e) = inl (sym c ∙ e)
    go (inr o) = inr o

-- the first of a group is left when nothing else of it is gone
first_out : (n k : Option ℕ) (v : ℕ) (u : Bool) (a : List Letter) → (n ≡ none → k ≡ none) → (n ≡ none → AllStay a) → Agree n (gone_load v u ∷ a)
    → Ok n k (gone_load v u ∷ a) → Ok n k a
first_out none k v u a f c g h = rw (f refl) (ok_stay none a (c refl))
first_out (some m) k v u a f c g h = rw g.0 h.1

-- to remove the last makes no fault
pub ok_last_cut : (b : List Letter) (x : Letter) (a : List Letter) → Cut b x a → Stuck (x ∷ b) a → Agree (near_word b) (x ∷ a)
    → Ok (near_word b) (witness_word b) (x ∷ a) → Ok (near_word b) (witness_word b) a
ok_last_cut b far a c r g h = h.1
ok_last_cut b (a_wall d) a c r g h = absurd c
ok_last_cut b (kept_load v) a c r g h = absurd c
ok_last_cut b (kept_store v) a c r g h = absurd c
ok_last_cut b (gone_load v u) a c r g h =
    first_out (near_word b) (witness_word b) v u a (fresh b) (λ e. all_stay (gone_load v u ∷ b) a (rw e) r g.1 h.1) g h
ok_last_cut b (gone_store v) a (inl e) r g h = rw e h.1
ok_last_cut b (gone_store v) a (inr o) r g h = ok_stores (some v) (near_word b) (witness_word b) a o h.1
