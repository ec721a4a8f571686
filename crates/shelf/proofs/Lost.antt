-- Document 02, C-19: the shortened trace's matching shows no fault 11, 13 or 14. A gone load is not a used first one. A gone store has a store after it with no
-- kept load between, or the first access is a load of its value and, kept or not, its witness. Assumes nothing.
use mathlib.Core.Path.{◌≡◌, refl, sym, ◌∙◌, ap, subst}
use mathlib.Core.Logic.{◌≢◌}
use mathlib.Core.Bool.{Bool, true, false, not, cond, ◌&&◌, ◌||◌, false≢true}
use mathlib.Core.Option
use mathlib.Core.Option.{Option, none, some, some-ne-none}
use mathlib.Core.List.{List, [], ◌∷◌, map, head?}
use Prim.Native.Nat.{ℕ, suc}
use native.Mathlib.Omega.{arith}
use lib.Dec.{T, eqb, eqb→eq}
use lib.ListN.{length}
use Rattle.laws.proofs.Cases.{cases, either}
use Rattle.event.specs.declared.Event.{Event}
use Rattle.rules.specs.View.{View, wall, load, store}
use Rattle.rules.specs.Fault.{is_none, Item, item, gone, stays, view_of, group, closing, witness}
use Rattle.rules.specs.Verdict.{items}
use Rattle.rules.proofs.Item.{Sound₁, Sound}
use Rattle.rules.proofs.Place.{witness_store}
use Rattle.rules.proofs.Truth.{and_right, or_right}
use Rattle.shelf.specs.Short.{elder, first, stored, loaded, stays as keeps, flags, numbers}
use Rattle.shelf.proofs.First.{by_eq, elder_none, Both, neither, each, both, near_view}
use Rattle.shelf.proofs.Tally.{same_place}
use Rattle.shelf.proofs.Twice.{flags_length, map_length, numbers_length}

abbrev views : List Item → List View
views b = map view_of b

-- each item is kept exactly where its view stays
abbrev Fated₁ : List Item → Item → List Item → Type 0
Fated₁ b (item v gone) a = T (not (keeps (views b) v (views a)))
Fated₁ b (item v (stays w n)) a = T (keeps (views b) v (views a))

abbrev pub Fated : List Item → List Item → Type 0
Fated b [] = Unit {0}
Fated b (x ∷ a) = Fated₁ b x a × Fated (x ∷ b) a

-- ---- 13

not_false : {X : Type 0} (c : Bool) → c ≡ false → T c → X
not_false true e t = absurd (false≢true (sym e))
not_false false e t = absurd t

not_near : {o n : Option View} → Both o n → T (not (is_none o)) → n ≢ none
not_near neither t = absurd t
not_near (each {v = v} {w = w}) t = some-ne-none w

used_later : (u c : Bool) → T (not (u && c)) → T u → T (not c)
used_later true c h t = h
used_later false c h t = absurd t

-- ---- the witness

-- where a group begins with a load and a store is still to come, the load's value is the witness's
abbrev Witnessed : List Item → List Item → Type 0
Witnessed b a = (l v : ℕ) → T (loaded v (first l (views b))) → T (stored l (views a)) → witness (group l b) ≡ some v

both_near : (l : ℕ) (b : List Item) → Both (first l (views b)) (Option.map view_of (head? (group l b)))
both_near l b = subst (Both (first l (views b))) (sym (near_view view_of l b)) (both l (views b))

witness_gone : (p w v : ℕ) (u : Bool) (o : Option View) (g : List Item) → Both o (Option.map view_of (head? g)) → (T (loaded v o) → witness g ≡ some v)
    → T (loaded v (elder o (load p w u))) → witness (item (load p w u) gone ∷ g) ≡ some v
witness_gone p w v u none [] neither f t = ap some (eqb→eq w v t)
witness_gone p w v u (some z) (x ∷ g) each f t = f t
witness_gone p w v u none (x ∷ g) h f t = elim h [ ]
witness_gone p w v u (some z) [] h f t = elim h [ ]

witness_kept : (p w v : ℕ) (u : Bool) (o : Option View) → T (is_none o) → T (loaded v (elder o (load p w u))) → ◌≡◌ {A = Option ℕ} (some w) (some v)
witness_kept p w v u none h t = ap some (eqb→eq w v t)
witness_kept p w v u (some z) h t = absurd h

loaded_out : (v p w : ℕ) (o : Option View) → T (loaded v (elder o (store p w))) → T (loaded v o)
loaded_out v p w none t = absurd t
loaded_out v p w (some z) t = t

none_stored : {X : Type 0} (c d : Bool) → T (not c && d) → T c → X
none_stored true d h t = absurd h
none_stored false d h t = absurd t

witnessed_next : (b : List Item) (x : Item) (a : List Item) → Fated₁ b x a → Witnessed b (x ∷ a) → Witnessed (x ∷ b) a
witnessed_next b (item wall f) a g h l v t s = absurd t
witnessed_next b (item (load q w u) gone) a g h l v t s =
    by_eq (λ c. T (loaded v (cond c (elder (first l (views b)) (load q w u)) (first l (views b))))
    → witness (cond c (item (load q w u) gone ∷ group l b) (group l b)) ≡ some v) l q
    (λ _ t. witness_gone q w v u (first l (views b)) (group l b) (both_near l b) (λ t. h l v t s) t) (λ _ t. h l v t s) t
witnessed_next b (item (load q w u) (stays y n)) a g h l v t s =
    by_eq (λ c. T (loaded v (cond c (elder (first l (views b)) (load q w u)) (first l (views b))))
    → witness (cond c (item (load q w u) (stays y n) ∷ group l b) (group l b)) ≡ some v) l q
    (λ i t. witness_kept q w v u (first l (views b)) (rw i (and_right u (is_none (first q (views b))) g)) t) (λ _ t. h l v t s) t
witnessed_next b (item (store q w) gone) a g h l v t s =
    by_eq (λ c. T (loaded v (cond c (elder (first l (views b)) (store q w)) (first l (views b))))
    → witness (cond c (item (store q w) gone ∷ group l b) (group l b)) ≡ some v) l q
    (λ _ t. witness_store q w (group l b) ∙ h l v (loaded_out v q w (first l (views b)) t) (or_right (eqb l q) (stored l (views a)) s))
    (λ _ t. h l v t (or_right (eqb l q) (stored l (views a)) s)) t
witnessed_next b (item (store q w) (stays y n)) a g h l v t s =
    by_eq (λ c. T (loaded v (cond c (elder (first l (views b)) (store q w)) (first l (views b))))
    → witness (cond c (item (store q w) (stays y n) ∷ group l b) (group l b)) ≡ some v) l q
    (λ i t. none_stored (stored q (views a)) (not (loaded w (first q (views b)))) g (subst (λ z. T (stored z (views a))) i s))
    (λ _ t. h l v t (or_right (eqb l q) (stored l (views a)) s)) t

-- ---- closing

-- behind an access no load is kept, so before the store to come there is nothing kept
still_first : (l : ℕ) (b : List View) (o : Option View) (c : Bool) (v : View) → is_none o ≡ false → is_none (cond c (elder o v) o) ≡ false
still_first l b o true v h = elder_none o v
still_first l b o false v h = h

unclosed : (p : ℕ) (b a : List Item) → Fated b a → is_none (first p (views b)) ≡ false → T (stored p (views a)) → T (closing (group p a)) → ⊥
unclosed p b [] f h s t = s
unclosed p b (item wall y ∷ a) f h s t = s
unclosed p b (item (load q w u) gone ∷ a) f h s t =
    by_eq (λ c. is_none (cond c (elder (first p (views b)) (load q w u)) (first p (views b))) ≡ false
    → (is_none (cond c (elder (first p (views b)) (load q w u)) (first p (views b))) ≡ false → T (closing (group p a)) → ⊥)
    → T (closing (cond c (item (load q w u) gone ∷ group p a) (group p a))) → ⊥) p q
    (λ _ h ih t. ih h t) (λ _ h ih t. ih h t) (still_first p (views b) (first p (views b)) (eqb p q) (load q w u) h)
    (λ h t. unclosed p (item (load q w u) gone ∷ b) a f.1 h s t) t
unclosed p b (item (load q w u) (stays y n) ∷ a) f h s t =
    by_eq (λ c. (is_none (cond c (elder (first p (views b)) (load q w u)) (first p (views b))) ≡ false → T (closing (group p a)) → ⊥)
    → T (closing (cond c (item (load q w u) (stays y n) ∷ group p a) (group p a))) → ⊥) p q
    (λ i ih t. not_false (is_none (first p (views b))) h (rw i (and_right u (is_none (first q (views b))) f.0))) (λ _ ih t. ih h t)
    (λ h t. unclosed p (item (load q w u) (stays y n) ∷ b) a f.1 h s t) t
unclosed p b (item (store q w) y ∷ a) f h s t =
    by_eq (λ c. (is_none (cond c (elder (first p (views b)) (store q w)) (first p (views b))) ≡ false → T (stored p (views a)) → T (closing (group p a)) → ⊥)
    → T (c || stored p (views a)) → T (closing (cond c (item (store q w) y ∷ group p a) (group p a))) → ⊥) p q
    (λ _ ih s t. t) (λ _ ih s t. ih h s t) (λ h s t. unclosed p (item (store q w) y ∷ b) a f.1 h s t) s t

-- ---- no fault

store_gone_lem : (c d : Bool) → c ≡ false → T (not (not c && not d)) → T d
store_gone_lem true d e h = absurd (false≢true (sym e))
store_gone_lem false true e h = tt
store_gone_lem false false e h = h

sound₁ : (b : List Item) (x : Item) (a : List Item) → Fated₁ b x a → Fated (x ∷ b) a → Witnessed b (x ∷ a) → Sound₁ b x a
sound₁ b (item v (stays w n)) a f g h = tt
sound₁ b (item wall gone) a f g h = f
sound₁ b (item (load p v u) gone) a f g h = λ t. not_near (both_near p b) (used_later u (is_none (first p (views b))) f t)
sound₁ b (item (store p v) gone) a f g h = λ t. cases (either (stored p (views a)))
    (λ e. absurd (unclosed p (item (store p v) gone ∷ b) a g (rw (same_place p) (elder_none (first p (views b)) (store p v))) (rw e tt) t))
    (λ e. h p v (store_gone_lem (stored p (views a)) (loaded v (first p (views b))) e f) (rw (same_place p) tt))

pub sound : (b a : List Item) → Fated b a → Witnessed b a → Sound b a
sound b [] f h = tt
sound b (x ∷ a) f h = (sound₁ b x a f.0 f.1 h, sound (x ∷ b) a f.1 (witnessed_next b x a f.0 h))

-- ---- the items of the shortened trace's matching

module _ (look : Event → View) where
  views_items : (s : List Event) (ns : List ℕ) → length ns ≡ length s → views (items look s ns) ≡ map look s
  views_items [] ns h = refl
  views_items (e ∷ s) [] h = absurd (omega arith)
  views_items (e ∷ s) (n ∷ ns) h = ap (λ (r : List View). look e ∷ r) (views_items s ns (omega arith))

  fated : (b : List Item) (s : List Event) (k : ℕ) → Fated b (items look s (numbers (suc k) (flags (views b) (map look s))))
  fated b [] k = tt
  fated b (e ∷ s) k =
      go (keeps (views b) (look e) (map look s)) refl (fated (item (look e) (stays false (suc k)) ∷ b) s (suc k)) (fated (item (look e) gone ∷ b) s k)
    where
      many : (k : ℕ) → length (numbers k (flags (look e ∷ views b) (map look s))) ≡ length s
      many k = numbers_length k (flags (look e ∷ views b) (map look s)) ∙ flags_length (look e ∷ views b) (map look s) ∙ map_length look s

      go : (c : Bool) → keeps (views b) (look e) (map look s) ≡ c
          → Fated (item (look e) (stays false (suc k)) ∷ b) (items look s (numbers (suc (suc k)) (flags (look e ∷ views b) (map look s))))
          → Fated (item (look e) gone ∷ b) (items look s (numbers (suc k) (flags (look e ∷ views b) (map look s))))
          → Fated b (items look (e ∷ s) (cond c (suc k ∷ numbers (suc (suc k)) (flags (look e ∷ views b) (map look s)))
          (0 ∷ numbers (suc k) (flags (look e ∷ views b) (map look s)))))
      go true q h i = (rw (views_items s (numbers (suc (suc k)) (flags (look e ∷ views b) (map look s))) (many (suc (suc k))), q) tt, h)
      go false q h i = (rw (views_items s (numbers (suc k) (flags (look e ∷ views b) (map look s))) (many (suc k)), q) tt, i)

  pub short_sound : (s : List Event) → Sound [] (items look s (numbers 1 (flags [] (map look s))))
  short_sound s = sound [] (items look s (numbers 1 (flags [] (map look s)))) (fated [] s 0) (λ l v t. absurd t)
