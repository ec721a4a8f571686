-- The fixed order of the removals: the last gone item that may be removed, as long as there is one. Each location's word says that to remove the
-- last makes no fault, and that where nothing may be removed nothing is gone; so it goes on until nothing is. Assumes nothing.
use mathlib.Core.Path.{◌≡◌, refl, ap, subst}
use mathlib.Core.Logic.{◌⊎◌, inl, inr}
use mathlib.Core.Bool.{Bool, true, false}
use mathlib.Core.Option.{Option, none, some}
use mathlib.Core.List.{List, [], ◌∷◌}
use Prim.Native.Nat.{ℕ, zero, suc}
use native.Mathlib.Omega.{arith}
use lib.Dec.{T, eqb, eqb_refl}
use borrow.Author.Tests.{eqb-true}
use Rattle.rules.proofs.Item.{View, wall, load, store, gone, stays, Item, item, value_of, near, Holds, Stores, Removable, one, Move, remove, keep}
use Rattle.rules.proofs.Item.{Sound, Gone, may}
use Rattle.rules.proofs.Fixed.{Still as StillOf, Last as LastOf, Lasts as LastsOf, out, under, end, more}
use Rattle.rules.proofs.Word.{kept_load, kept_store, gone_load, gone_store, Agree, Ok, ok_of_fine}
use Rattle.rules.proofs.WordMoves.{AllStay, Cut, Stays, Stuck, Stuck₁, agree_step, all_stay, ok_last_cut}
use Rattle.rules.proofs.Place.{letter, word, near_at, witness_at, by_place, at_own, cut_of, holds_of_word, stores_of_word, step_of, fine_of_sound}
use Rattle.rules.proofs.Place.{Agrees}

abbrev Still : List Item → List Item → Type 0
Still b s = StillOf may Gone b s

abbrev Last : List Item → List Item → List Item → Type 0
Last b s t = LastOf may Gone b s t

abbrev Lasts : List Item → List Item → Type 0
Lasts s t = LastsOf may Gone s t

-- ---- as a place sees it

-- a letter that may be removed is an item that may
uncut_load : (q : ℕ) (b : List Item) (v : ℕ) (u : Bool) (a : List Item) → Cut (word q b) (gone_load v u) (word q a) → Removable b (item (load q v u) gone) a
uncut_load q b v true a c = holds_of_word q b v c
uncut_load q b v false a c = tt

uncut_store : (q : ℕ) (b : List Item) (v : ℕ) (a : List Item) → Cut (word q b) (gone_store v) (word q a) → Removable b (item (store q v) gone) a
uncut_store q b v a (inl e) = inl (holds_of_word q b v e)
uncut_store q b v a (inr o) = inr (stores_of_word q a o)

stuck₁ : (l : ℕ) (b : List Item) (e : Item) (a : List Item) → (Gone e → Removable b e a → ⊥) → Stuck₁ (word l b) (letter l e) (word l a)
stuck₁ l b (item wall gone) a h = tt
stuck₁ l b (item wall (stays w n)) a h = tt
stuck₁ l b (item (load q v u) gone) a h =
    by_place (λ x. Stuck₁ (word l b) x (word l a)) l q (gone_load v u) tt (λ i c. h tt (uncut_load q b v u a (subst (λ x. Cut (word x b) (gone_load v u) (word x a)) i c)))
stuck₁ l b (item (load q v u) (stays w n)) a h = by_place (λ x. Stuck₁ (word l b) x (word l a)) l q (kept_load v) tt (λ i. tt)
stuck₁ l b (item (store q v) gone) a h =
    by_place (λ x. Stuck₁ (word l b) x (word l a)) l q (gone_store v) tt (λ i c. h tt (uncut_store q b v a (subst (λ x. Cut (word x b) (gone_store v) (word x a)) i c)))
stuck₁ l b (item (store q v) (stays w n)) a h = by_place (λ x. Stuck₁ (word l b) x (word l a)) l q (kept_store v) tt (λ i. tt)

stuck : (l : ℕ) (b s : List Item) → Still b s → Stuck (word l b) (word l s)
stuck l b [] r = tt
stuck l b (e ∷ s) r = (stuck₁ l b e s r.0, stuck l (e ∷ b) s r.1)

agree_last : (l : ℕ) {b s t : List Item} → Last b s t → Agree (near_at l b) (word l s) → Agree (near_at l b) (word l t)
agree_last l (out {b = b} {a = a} {e = e} r g m) c = let k : Move one b (e ∷ a) a = remove m in agree_step (step_of l k g) c
agree_last l (under q) c = (c.0, agree_last l q c.1)

ok_last : (l : ℕ) {b s t : List Item} → Last b s t → Agree (near_at l b) (word l s) → Ok (near_at l b) (witness_at l b) (word l s)
    → Ok (near_at l b) (witness_at l b) (word l t)
ok_last l (out {b = b} {a = a} {e = e} r g m) c h =
    ok_last_cut (word l b) (letter l e) (word l a) (cut_of l b e a g m) (stuck l (e ∷ b) a r) c h
ok_last l (under q) c h = (h.0, ok_last l q c.1 h.1)

-- ---- so it goes on until nothing is gone

pick_holds : (v : ℕ) (o : Option View) → Holds v o ⊎ (Holds v o → ⊥)
pick_holds v none = inr (λ h. h)
pick_holds v (some e) = go (eqb (value_of e) v) refl
  where
    go : (c : Bool) → eqb (value_of e) v ≡ c → (value_of e ≡ v) ⊎ (value_of e ≡ v → ⊥)
    go true q = inl (eqb-true (value_of e) v q)
    go false q = inr (λ i. rw q at (subst (λ z. T (eqb (value_of e) z)) i (eqb_refl (value_of e))))

pick_stores : (o : Option View) → Stores o ⊎ (Stores o → ⊥)
pick_stores none = inr (λ h. h)
pick_stores (some wall) = inr (λ h. h)
pick_stores (some (load p v u)) = inr (λ h. h)
pick_stores (some (store p v)) = inl tt

pick_or : {X Y : Type 0} → X ⊎ (X → ⊥) → Y ⊎ (Y → ⊥) → (X ⊎ Y) ⊎ (X ⊎ Y → ⊥)
pick_or (inl x) d = inl (inl x)
pick_or (inr f) (inl y) = inl (inr y)
pick_or (inr f) (inr g) = inr (elim [ inl x ↦ f x | inr y ↦ g y ])

pick_removable : (b : List Item) (e : Item) (a : List Item) → Removable b e a ⊎ (Removable b e a → ⊥)
pick_removable b (item wall f) a = inr (λ h. h)
pick_removable b (item (load p v true) f) a = pick_holds v (near p b)
pick_removable b (item (load p v false) f) a = inl tt
pick_removable b (item (store p v) f) a = pick_or (pick_holds v (near p b)) (pick_stores (near p a))

Found : List Item → List Item → Type 0
Found b s = ((t : List Item) × Last b s t) ⊎ Still b s

find₁ : (b : List Item) (e : Item) (a : List Item) → Still (e ∷ b) a → Removable b e a ⊎ (Removable b e a → ⊥) → Found b (e ∷ a)
unfolding Found
find₁ b (item v (stays w n)) a r d = inr (λ g. absurd g, r)
find₁ b (item v gone) a r (inl m) = inl (a, out r tt m)
find₁ b (item v gone) a r (inr f) = inr (λ _. f, r)

found : (b : List Item) (e : Item) (a : List Item) → Found (e ∷ b) a → Found b (e ∷ a)
unfolding Found
found b e a (inl q) = inl (e ∷ q.0, under q.1)
found b e a (inr r) = find₁ b e a r (pick_removable b e a)

find : (b s : List Item) → Found b s
unfolding Found
find b [] = inr tt
find b (e ∷ a) = found b e a (find (e ∷ b) a)

abbrev count : List Item → ℕ
count [] = 0
count (e ∷ s) = suc (count s)

count_last : {b s t : List Item} → Last b s t → count s ≡ suc (count t)
count_last (out r g m) = refl
count_last (under q) = ap suc (count_last q)

keep_out : (e : Item) (a : List Item) → Gone e → keep (e ∷ a) ≡ keep a
keep_out (item v gone) a g = refl
keep_out (item v (stays w n)) a g = absurd g

keep_cons : (e : Item) (s t : List Item) → keep s ≡ keep t → keep (e ∷ s) ≡ keep (e ∷ t)
keep_cons (item v gone) s t h = h
keep_cons (item v (stays w n)) s t h = ap (λ t. item v (stays w n) ∷ t) h

keep_last : {b s t : List Item} → Last b s t → keep s ≡ keep t
keep_last (out {a = a} {e = e} r g m) = keep_out e a g
keep_last (under {s = s} {t = t} {e = e} q) = keep_cons e s t (keep_last q)

-- what every place lets stay is kept
keep_all : (s : List Item) → ((l : ℕ) → AllStay (word l s)) → keep s ≡ s
keep_all [] h = refl
keep_all (item v (stays w n) ∷ s) h = ap (λ t. item v (stays w n) ∷ t) (keep_all s (λ l. (h l).1))
keep_all (item wall gone ∷ s) h = absurd (h 0).0
keep_all (item (load p v u) gone ∷ s) h = absurd (at_own Stays p {x = gone_load v u} (h p).0)
keep_all (item (store p v) gone ∷ s) h = absurd (at_own Stays p {x = gone_store v} (h p).0)

lasts_go : (s : List Item) → ((l : ℕ) → Agree none (word l s)) → ((l : ℕ) → Ok none none (word l s)) → Found [] s
    → ((t : List Item) → Last [] s t → Lasts t (keep t)) → Lasts s (keep s)
unfolding Found
lasts_go s g h (inl q) ih = rw (keep_last q.1) (more q.1 (ih q.0 q.1))
lasts_go s g h (inr r) ih = rw (keep_all s (λ l. all_stay [] (word l s) refl (stuck l [] s r) (g l) (h l))) (end r)

lasts : (n : ℕ) (s : List Item) → count s ≡ n → ((l : ℕ) → Agree none (word l s)) → ((l : ℕ) → Ok none none (word l s)) → Lasts s (keep s)
lasts zero s c g h = lasts_go s g h (find [] s) (λ t q. let k = count_last q in absurd (omega arith))
lasts (suc n) s c g h = lasts_go s g h (find [] s)
    (λ t q. let k = count_last q in lasts n t (omega arith) (λ l. agree_last l q (g l)) (λ l. ok_last l q (g l) (h l)))

pub greedy : (s : List Item) → Agrees s → Sound [] s → Lasts s (keep s)
greedy s a f = lasts (count s) s refl a (λ l. ok_of_fine [] (word l s) (a l) (λ _. refl) (fine_of_sound l [] s f))
