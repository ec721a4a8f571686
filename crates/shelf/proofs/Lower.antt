-- No removal and no swap makes fewer events stay, in a trace whose loads agree with the near accesses before them. A removed load, or a store
-- with another store after it, did not stay; a removed last store has a near access of its value before it, and then the store before it stays
-- in its stead or the first access is a load of that value. Assumes nothing.
use mathlib.Core.Path.{◌≡◌, refl, sym, ◌∙◌, ap, ap₂, subst}
use mathlib.Core.Logic.{◌⊎◌, inl, inr, ◌≢◌}
use mathlib.Core.Bool.{Bool, true, false, not, cond, ◌&&◌, ◌||◌, false≢true}
use mathlib.Core.Option.{Option, none, some}
use mathlib.Core.List.{List, [], ◌∷◌}
use Prim.Native.Nat.{ℕ, ◌+◌, ◌≤◌}
use native.Mathlib.Omega.{arith}
use lib.Dec.{T, eqb, eqb→eq, eqb_refl, T_not}
use borrow.Author.Tests.{eqb-true, eqb-false, ne_eqb}
use Rattle.laws.proofs.Cases.{cases, either}
use Rattle.rules.specs.View.{View, wall, load, store, value_of, apart, place_of, differ}
use Rattle.rules.specs.Fault.{is_none}
use Rattle.rules.specs.Moves.{Holds, Stores}
use Rattle.rules.proofs.Truth.{T_true}
use Rattle.shelf.specs.Short.{elder, first, stored, loaded, stays}
use Rattle.shelf.proofs.First.{nearest, by_eq, elder_none, elder_some, opener, opener_elder, not_first, store_near, Both, neither, each, both}
use Rattle.shelf.proofs.Tally.{bit, tally, Widens, Wider, widens_same, tally_wider, same_place}

-- ---- loads that agree

abbrev pub Coherent₁ : List View → View → Type 0
Coherent₁ b wall = Unit {0}
Coherent₁ b (load p v u) = (w : ℕ) → Holds w (nearest p b) → w ≡ v
Coherent₁ b (store p v) = Unit {0}

abbrev pub Coherent : List View → List View → Type 0
Coherent b [] = Unit {0}
Coherent b (v ∷ a) = Coherent₁ b v × Coherent (v ∷ b) a

next_agrees : (p v : ℕ) (b a : List View) → Coherent b a → Holds v (nearest p b) → (w : ℕ) → T (loaded w (nearest p a)) → v ≡ w
next_agrees p v b [] g h w t = absurd t
next_agrees p v b (wall ∷ a) g h w t = absurd t
next_agrees p v b (load q x u ∷ a) g h w t =
    by_eq (λ c. T (loaded w (cond c (some (load q x u)) (nearest p a))) → (Holds v (cond c (some (load q x u)) (nearest p b)) → T (loaded w (nearest p a)) → v ≡ w)
    → v ≡ w) p q (λ i t ih. g.0 v (rw (← i) h) ∙ eqb→eq x w t) (λ _ t ih. ih h t) t (λ h t. next_agrees p v (load q x u ∷ b) a g.1 h w t)
next_agrees p v b (store q x ∷ a) g h w t =
    by_eq (λ c. T (loaded w (cond c (some (store q x)) (nearest p a))) → (Holds v (cond c (some (store q x)) (nearest p b)) → T (loaded w (nearest p a)) → v ≡ w)
    → v ≡ w) p q (λ i t ih. absurd t) (λ _ t ih. ih h t) t (λ h t. next_agrees p v (store q x ∷ b) a g.1 h w t)

-- ---- without one access the context is wider

opener_mono : (w : ℕ) (o n n' : Option View) → (T (loaded w n) → T (loaded w n')) → T (loaded w (opener o n)) → T (loaded w (opener o n'))
opener_mono w none n n' f t = f t
opener_mono w (some x) n n' f t = t

-- what comes next, if a load, is as what goes
widens_out : (o n : Option View) (x : View) → ((w : ℕ) → T (loaded w n) → T (loaded w (some x))) → Widens (elder o x) o n
widens_out o n x f = (
  λ t. absurd (subst T (elder_none o x) t),
  λ w t. rw (opener_elder o n x) (opener_mono w o n (some x) (f w) t),
)

wider_load : (p v : ℕ) (u : Bool) (b a : List View) → ((w : ℕ) → T (loaded w (nearest p a)) → T (loaded w (some (load p v u)))) → Wider (load p v u ∷ b) b a
wider_load p v u b a f l =
    by_eq (λ c. Widens (cond c (elder (first l b) (load p v u)) (first l b)) (first l b) (nearest l a)) l p
    (λ i. widens_out (first l b) (nearest l a) (load p v u) (λ w t. f w (rw (← i) t))) (λ _. (λ t. t, λ w t. t))

wider_store : (p v : ℕ) (b a : List View) → ((w : ℕ) → T (loaded w (nearest p a)) → T (loaded w (some (store p v)))) → Wider (store p v ∷ b) b a
wider_store p v b a f l =
    by_eq (λ c. Widens (cond c (elder (first l b) (store p v)) (first l b)) (first l b) (nearest l a)) l p
    (λ i. widens_out (first l b) (nearest l a) (store p v) (λ w t. f w (rw (← i) t))) (λ _. (λ t. t, λ w t. t))

wider_held : (p v : ℕ) (b a : List View) → Holds v (nearest p b) → Wider (store p v ∷ b) b a
wider_held p v b a h l =
    by_eq (λ c. Widens (cond c (elder (first l b) (store p v)) (first l b)) (first l b) (nearest l a)) l p
    (λ i. widens_same (elder (first l b) (store p v)) (first l b) (nearest l a) (elder_some (first l b) (store p v) (rw i (not_first p v b h)))) (λ _. (λ t. t, λ w t. t))

-- ---- what a move leaves

-- the removed store of value v at p was the last one: the near access before has its value, and with no access before nothing is lost
abbrev Behind : ℕ → ℕ → List View → List View → List View → Type 0
Behind p v b s t =
    ((is_none (first p b) ≡ true) × (tally b s ≤ tally b t)) ⊎ (Holds v (nearest p b) × (tally b s ≤ bit (not (loaded v (first p b))) + tally b t))

pub data Outcome (b s t : List View) : Type 0 where
  even : ((l : ℕ) → stored l s ≡ stored l t) → tally b s ≤ tally b t → Outcome b s t
  last : (p v : ℕ) → stored p s ≡ true → stored p t ≡ false → ((l : ℕ) → l ≢ p → stored l s ≡ stored l t) → Behind p v b s t → Outcome b s t

-- ---- removals

pub out_load : (p v : ℕ) (u : Bool) (b a : List View) → Coherent b (load p v u ∷ a) → (T u → Holds v (nearest p b)) → Outcome b (load p v u ∷ a) a
out_load p v u b a g h =
    even (λ l. refl)
    (let i = tally_wider a (load p v u ∷ b) b (wider_load p v u b a (λ w t. agreed w t)) in
    let j : bit (u && is_none (first p b)) ≡ 0 = ap bit (gone u h) in
    omega arith)
  where
    gone : (u : Bool) → (T u → Holds v (nearest p b)) → u && is_none (first p b) ≡ false
    gone true h = not_first p v b (h tt)
    gone false h = refl

    agreed : (w : ℕ) → T (loaded w (nearest p a)) → T (eqb v w)
    agreed w t =
        let i : v ≡ w = next_agrees p v (load p v u ∷ b) a g.1 (rw (same_place p) refl) w t in
        subst (λ z. T (eqb v z)) i (eqb_refl v)

stores_loaded : {X : Type 0} (w : ℕ) (o : Option View) → Stores o → T (loaded w o) → X
stores_loaded w none h t = absurd h
stores_loaded w (some wall) h t = absurd h
stores_loaded w (some (load p v u)) h t = absurd h
stores_loaded w (some (store p v)) h t = absurd t

or_own : (l p : ℕ) (a : List View) → stored p a ≡ true → eqb l p || stored l a ≡ stored l a
or_own l p a h = by_eq (λ c. c || stored l a ≡ stored l a) l p (λ i. sym (rw i h)) (λ _. refl)

pub out_over : (p v : ℕ) (b a : List View) → Stores (nearest p a) → Outcome b (store p v ∷ a) a
out_over p v b a h =
    let k : stored p a ≡ true = T_true (stored p a) (store_near p a h) in
    even (λ l. or_own l p a k)
    (let i = tally_wider a (store p v ∷ b) b (wider_store p v b a (λ w t. stores_loaded w (nearest p a) h t)) in
    let j : bit (not (stored p a) && not (loaded v (first p b))) ≡ 0 = rw k refl in
    omega arith)

pub out_held : (p v : ℕ) (b a : List View) → Holds v (nearest p b) → Outcome b (store p v ∷ a) a
out_held p v b a h =
    let i = tally_wider a (store p v ∷ b) b (wider_held p v b a h) in
    cases (either (stored p a))
    (λ k. even (λ l. or_own l p a k) (let j : bit (not (stored p a) && not (loaded v (first p b))) ≡ 0 = rw k refl in omega arith))
    (λ k. last p v (rw (same_place p) refl) k (λ l ne. rw (ne_eqb l p ne) refl)
    (inr (h, let j : bit (not (stored p a) && not (loaded v (first p b))) ≡ bit (not (loaded v (first p b))) = rw k refl in omega arith)))

-- ---- swaps

T_false : (c : Bool) → T (not c) → c ≡ false
T_false true h = absurd h
T_false false h = refl

or_swap : (c d e : Bool) → c || (d || e) ≡ d || (c || e)
or_swap true true e = refl
or_swap true false e = refl
or_swap false d e = refl

-- two accesses at different places
cross : (l p q : ℕ) (o : Option View) (x y : View) → T (not (eqb p q))
    → cond (eqb l q) (elder (cond (eqb l p) (elder o x) o) y) (cond (eqb l p) (elder o x) o)
    ≡ cond (eqb l p) (elder (cond (eqb l q) (elder o y) o) x) (cond (eqb l q) (elder o y) o)
cross l p q o x y d = go (eqb l p) (eqb l q) (λ i j. T_not (eqb p q) d (subst (λ z. T (eqb p z)) (sym (eqb-true l p i) ∙ eqb-true l q j) (eqb_refl p)))
  where
    go : (c e : Bool) → (c ≡ true → e ≡ true → ⊥) → cond e (elder (cond c (elder o x) o) y) (cond c (elder o x) o)
        ≡ cond c (elder (cond e (elder o y) o) x) (cond e (elder o y) o)
    go true true f = absurd (f refl refl)
    go true false f = refl
    go false true f = refl
    go false false f = refl

first_past : (p : ℕ) (w : View) (b : List View) → T (differ (some p) (place_of w)) → first p (w ∷ b) ≡ first p b
first_past p wall b d = absurd d
first_past p (load q v u) b d = rw (T_false (eqb p q) d) refl
first_past p (store q v) b d = rw (T_false (eqb p q) d) refl

stored_past : (p : ℕ) (w : View) (a : List View) → T (differ (some p) (place_of w)) → stored p (w ∷ a) ≡ stored p a
stored_past p wall a d = absurd d
stored_past p (load q v u) a d = refl
stored_past p (store q v) a d = rw (T_false (eqb p q) d) refl

-- what stays does not ask about other locations
stays_past : (v w : View) (b a : List View) → T (apart v w) → stays b v (w ∷ a) ≡ stays (w ∷ b) v a
stays_past wall w b a d = absurd d
stays_past (load p x u) w b a d = ap (λ o. u && is_none o) (sym (first_past p w b d))
stays_past (store p x) w b a d =
    ap₂ (λ c o. not c && not (loaded x o)) (stored_past p w a d) (sym (first_past p w b d))

apart_sym : (v w : View) → T (apart v w) → T (apart w v)
apart_sym v w d = go (place_of v) (place_of w) d
  where
    go : (o n : Option ℕ) → T (differ o n) → T (differ n o)
    go none n d = absurd d
    go (some p) none d = absurd d
    go (some p) (some q) d = by_eq (λ c. T (not c)) q p (λ i. subst (λ c. T (not c)) (T_true (eqb p q) (subst (λ z. T (eqb p z)) (sym i) (eqb_refl p))) d) (λ _. tt)

-- the first access at a place, of two events that are apart
first_swap : (l : ℕ) (v w : View) (b : List View) → T (apart v w) → first l (w ∷ v ∷ b) ≡ first l (v ∷ w ∷ b)
first_swap l wall w b d = absurd d
first_swap l (load p x u) wall b d = absurd d
first_swap l (store p x) wall b d = absurd d
first_swap l (load p x u) (load q y z) b d = cross l p q (first l b) (load p x u) (load q y z) d
first_swap l (load p x u) (store q y) b d = cross l p q (first l b) (load p x u) (store q y) d
first_swap l (store p x) (load q y z) b d = cross l p q (first l b) (store p x) (load q y z) d
first_swap l (store p x) (store q y) b d = cross l p q (first l b) (store p x) (store q y) d

stored_swap : (l : ℕ) (v w : View) (a : List View) → T (apart v w) → stored l (v ∷ w ∷ a) ≡ stored l (w ∷ v ∷ a)
stored_swap l wall w a d = absurd d
stored_swap l (load p x u) wall a d = absurd d
stored_swap l (store p x) wall a d = absurd d
stored_swap l (load p x u) (load q y z) a d = refl
stored_swap l (load p x u) (store q y) a d = refl
stored_swap l (store p x) (load q y z) a d = refl
stored_swap l (store p x) (store q y) a d = or_swap (eqb l p) (eqb l q) (stored l a)

pub swapped : (v w : View) (b a : List View) → T (apart v w) → Outcome b (v ∷ w ∷ a) (w ∷ v ∷ a)
swapped v w b a d =
    even (λ l. stored_swap l v w a d)
    (let i = ap bit (stays_past v w b a d) in
    let j = ap bit (stays_past w v b a (apart_sym v w d)) in
    let k = tally_wider a (w ∷ v ∷ b) (v ∷ w ∷ b) (λ l. widens_same (first l (w ∷ v ∷ b)) (first l (v ∷ w ∷ b)) (nearest l a) (first_swap l v w b d)) in
    omega arith)

-- ---- under one more event

stays_alike : (b : List View) (x : View) (s t : List View) → ((l : ℕ) → stored l s ≡ stored l t) → stays b x s ≡ stays b x t
stays_alike b wall s t h = refl
stays_alike b (load p v u) s t h = refl
stays_alike b (store p v) s t h = ap (λ c. not c && not (loaded v (first p b))) (h p)

stored_alike : (x : View) (s t : List View) → ((l : ℕ) → stored l s ≡ stored l t) → (l : ℕ) → stored l (x ∷ s) ≡ stored l (x ∷ t)
stored_alike wall s t h l = refl
stored_alike (load p v u) s t h l = h l
stored_alike (store p v) s t h l = ap (λ c. eqb l p || c) (h l)

-- a load before the removed last store
module _ (p v : ℕ) (b s t : List View) where
  own_load : (q w : ℕ) (u : Bool) (d : ℕ) (o n : Option View) → Both o n → ((x : ℕ) → Holds x n → x ≡ w) → w ≡ v
      → (x y : ℕ) → x ≤ bit (not (loaded v (elder o (load q w u)))) + y
      → ((is_none o ≡ true) × (d + x ≤ d + y)) ⊎ (Holds v n × (d + x ≤ bit (not (loaded v o)) + (d + y)))
  own_load q w u d none none neither g e x y i =
      let k : bit (not (eqb w v)) ≡ 0 = rw (e, same_place v) refl in
      inl (refl, omega arith)
  own_load q w u d (some a) (some c) each g e x y i = inr (g (value_of c) refl ∙ e, omega arith)
  own_load q w u d none (some c) h g e x y i = elim h [ ]
  own_load q w u d (some a) none h g e x y i = elim h [ ]

  behind_load : (q w : ℕ) (u : Bool) → Coherent₁ b (load q w u) → Behind p v (load q w u ∷ b) s t → Behind p v b (load q w u ∷ s) (load q w u ∷ t)
  behind_load q w u g h = go (eqb p q) (λ e. eqb-true p q e) refl h
    where
      go : (c : Bool) → (eqb p q ≡ true → p ≡ q) → eqb p q ≡ c
          → ((is_none (cond c (elder (first p b) (load q w u)) (first p b)) ≡ true) × (tally (load q w u ∷ b) s ≤ tally (load q w u ∷ b) t))
          ⊎ (Holds v (cond c (some (load q w u)) (nearest p b))
          × (tally (load q w u ∷ b) s ≤ bit (not (loaded v (cond c (elder (first p b) (load q w u)) (first p b)))) + tally (load q w u ∷ b) t))
          → Behind p v b (load q w u ∷ s) (load q w u ∷ t)
      go true f e (inl h) = absurd (false≢true (sym (elder_none (first p b) (load q w u)) ∙ h.0))
      go true f e (inr h) =
          own_load q w u (bit (u && is_none (first q b))) (first p b) (nearest p b) (both p b) (λ x k. g x (rw (← f e) k)) h.0
          (tally (load q w u ∷ b) s) (tally (load q w u ∷ b) t) h.1
      go false f e (inl h) = let i = h.1 in inl (h.0, omega arith)
      go false f e (inr h) = let i = h.1 in inr (h.0, omega arith)

  behind_far : (q w : ℕ) → eqb p q ≡ false → stored q s ≡ stored q t → Behind p v (store q w ∷ b) s t → Behind p v b (store q w ∷ s) (store q w ∷ t)
  behind_far q w e k h = go (eqb p q) e h
    where
      j : stays b (store q w) s ≡ stays b (store q w) t
      j = ap (λ c. not c && not (loaded w (first q b))) k

      go : (c : Bool) → c ≡ false
          → ((is_none (cond c (elder (first p b) (store q w)) (first p b)) ≡ true) × (tally (store q w ∷ b) s ≤ tally (store q w ∷ b) t))
          ⊎ (Holds v (cond c (some (store q w)) (nearest p b))
          × (tally (store q w ∷ b) s ≤ bit (not (loaded v (cond c (elder (first p b) (store q w)) (first p b)))) + tally (store q w ∷ b) t))
          → Behind p v b (store q w ∷ s) (store q w ∷ t)
      go true e h = absurd (false≢true (sym e))
      go false e (inl h) = let i = h.1 in let z = ap bit j in inl (h.0, omega arith)
      go false e (inr h) = let i = h.1 in let z = ap bit j in inr (h.0, omega arith)

  loaded_elder : (w : ℕ) (o : Option View) → loaded v (elder o (store p w)) ≡ loaded v o
  loaded_elder w none = refl
  loaded_elder w (some x) = refl

  -- the store before the removed last one: it stays in its stead
  behind_own : (w : ℕ) → stored p s ≡ true → stored p t ≡ false → Behind p v (store p w ∷ b) s t → tally b (store p w ∷ s) ≤ tally b (store p w ∷ t)
  behind_own w k k' h = go (eqb p p) (same_place p) h
    where
      go : (c : Bool) → c ≡ true
          → ((is_none (cond c (elder (first p b) (store p w)) (first p b)) ≡ true) × (tally (store p w ∷ b) s ≤ tally (store p w ∷ b) t))
          ⊎ (Holds v (cond c (some (store p w)) (nearest p b))
          × (tally (store p w ∷ b) s ≤ bit (not (loaded v (cond c (elder (first p b) (store p w)) (first p b)))) + tally (store p w ∷ b) t))
          → tally b (store p w ∷ s) ≤ tally b (store p w ∷ t)
      go false e h = absurd (false≢true e)
      go true e (inl h) = absurd (false≢true (sym (elder_none (first p b) (store p w)) ∙ h.0))
      go true e (inr h) =
          let i = h.1 in
          let j : bit (not (stored p s) && not (loaded w (first p b))) ≡ 0 = rw k refl in
          let j' : bit (not (stored p t) && not (loaded w (first p b))) ≡ bit (not (loaded v (elder (first p b) (store p w)))) =
          rw (k', loaded_elder w (first p b), h.0) refl in
          omega arith

under_store : (p v q w : ℕ) (b s t : List View) → stored p s ≡ true → stored p t ≡ false → ((l : ℕ) → l ≢ p → stored l s ≡ stored l t)
    → Behind p v (store q w ∷ b) s t → Outcome b (store q w ∷ s) (store q w ∷ t)
under_store p v q w b s t k k' f h = cases (either (eqb p q))
    (λ e. subst (λ q. Behind p v (store q w ∷ b) s t → Outcome b (store q w ∷ s) (store q w ∷ t)) (eqb-true p q e)
    (λ h. even (λ l. by_eq (λ c. c || stored l s ≡ c || stored l t) l p (λ _. refl) (f l)) (behind_own p v b s t w k k' h)) h)
    (λ e. last p v (rw e k) (rw e k') (λ l ne. ap (λ c. eqb l q || c) (f l ne)) (behind_far p v b s t q w e (f q (λ i. eqb-false p q e (sym i))) h))

pub under : (b : List View) (x : View) (s t : List View) → Coherent₁ b x → Outcome (x ∷ b) s t → Outcome b (x ∷ s) (x ∷ t)
under b x s t g (even h i) = even (stored_alike x s t h) (let j = ap bit (stays_alike b x s t h) in omega arith)
under b wall s t g (last p v k k' f (inl h)) = even (λ l. refl) (let i = h.1 in omega arith)
under b wall s t g (last p v k k' f (inr h)) = absurd h.0
under b (load q w u) s t g (last p v k k' f h) = last p v k k' f (behind_load p v b s t q w u g h)
under b (store q w) s t g (last p v k k' f h) = under_store p v q w b s t k k' f h

-- at the start nothing is before
pub settled : {s t : List View} → Outcome [] s t → tally [] s ≤ tally [] t
settled (even h i) = i
settled (last p v k k' f (inl h)) = h.1
settled (last p v k k' f (inr h)) = absurd h.0
