-- From traces to words: what a location sees of a trace, and what that says of the trace. Each that a rule or a fault reads at one location is
-- in that location's own word. Assumes nothing.
use mathlib.Core.Path.{◌≡◌, refl, sym, ◌∙◌, ap, subst}
use mathlib.Core.Logic.{inl, inr, ◌≢◌}
use mathlib.Core.Bool.{Bool, true, false, cond}
use mathlib.Core.Option
use mathlib.Core.Option.{Option, none, some, some-ne-none, some-injective}
use mathlib.Core.List.{List, [], ◌∷◌, map, head?}
use Prim.Native.Nat.{ℕ}
use lib.Dec.{T, eqb, eqb→eq, eqb_refl, T_not}
use Rattle.rules.proofs.Item.{View, wall, load, store, gone, stays, Item, item, view_of, place, value_of, group, near, Holds, Stores, Removable}
use Rattle.rules.proofs.Item.{Differ, one, Move, remove, swap, next, closing, witness, Sound₁, Sound, Gone}
use Rattle.rules.proofs.Chain.{Strict}
use Rattle.rules.proofs.Word.{Letter, far, a_wall, kept_load, kept_store, gone_load, gone_store, near_word}
use Rattle.rules.proofs.Word.{stores_word, closing_word, seed, witness_word, Fine₁, Fine, none≢some}
use Rattle.rules.proofs.Word.{Agree}
use Rattle.rules.proofs.WordMoves.{Cut, Apart, left, right, Step, cut, flip, on}

-- ---- what a place sees

-- an item as its own place sees it
abbrev pub glyph : Item → Letter
glyph (item wall gone) = a_wall true
glyph (item wall (stays w n)) = a_wall false
glyph (item (load p v u) gone) = gone_load v u
glyph (item (load p v u) (stays w n)) = kept_load v
glyph (item (store p v) gone) = gone_store v
glyph (item (store p v) (stays w n)) = kept_store v

-- a place sees the walls and what stands at it
abbrev pub see : ℕ → Option ℕ → Letter → Letter
see l none x = x
see l (some p) x = cond (eqb l p) x far

abbrev pub letter : ℕ → Item → Letter
letter l e = see l (place e) (glyph e)

abbrev pub word : ℕ → List Item → List Letter
word l s = map (letter l) s

-- the near access before and the witness, as a place sees them
abbrev pub near_at : ℕ → List Item → Option ℕ
near_at l b = near_word (word l b)

abbrev pub witness_at : ℕ → List Item → Option ℕ
witness_at l b = witness_word (word l b)

-- what holds of a far letter and, at its place, of x, holds of what a place sees
pub by_place : (P : Letter → Type 0) (l p : ℕ) (x : Letter) → P far → (l ≡ p → P x) → P (cond (eqb l p) x far)
by_place P l p x f g = go (eqb l p) (λ t. g (eqb→eq l p t))
  where
    go : (c : Bool) → (T c → P x) → P (cond c x far)
    go true h = h tt
    go false h = f

-- what holds of what the own place sees holds of the letter
pub at_own : (P : Letter → Type 0) (p : ℕ) {x : Letter} → P (cond (eqb p p) x far) → P x
at_own P p {x} h = go (eqb p p) (eqb_refl p) h
  where
    go : (c : Bool) → T c → P (cond c x far) → P x
    go true t h = h
    go false t h = absurd t

-- ---- a group, and the word that it is seen in

data Seen : List Item → List Letter → Type 0 where
  end : Seen [] []
  stop : {d : Bool} {w : List Letter} → Seen [] (a_wall d ∷ w)
  pass : {g : List Item} {w : List Letter} → Seen g w → Seen g (far ∷ w)
  load_gone_lem : {p v : ℕ} {u : Bool} {g : List Item} {w : List Letter} → Seen g w → Seen (item (load p v u) gone ∷ g) (gone_load v u ∷ w)
  load_kept : {p v : ℕ} {u y : Bool} {n : ℕ} {g : List Item} {w : List Letter} → Seen g w → Seen (item (load p v u) (stays y n) ∷ g) (kept_load v ∷ w)
  store_gone_lem : {p v : ℕ} {g : List Item} {w : List Letter} → Seen g w → Seen (item (store p v) gone ∷ g) (gone_store v ∷ w)
  store_kept : {p v : ℕ} {y : Bool} {n : ℕ} {g : List Item} {w : List Letter} → Seen g w → Seen (item (store p v) (stays y n) ∷ g) (kept_store v ∷ w)

by_group : (c : Bool) (e : Item) (x : Letter) (g : List Item) (w : List Letter) → Seen g (far ∷ w) → Seen (e ∷ g) (x ∷ w)
    → Seen (cond c (e ∷ g) g) (cond c x far ∷ w)
by_group true e x g w p q = q
by_group false e x g w p q = p

seen : (l : ℕ) (s : List Item) → Seen (group l s) (word l s)
seen l [] = end
seen l (item wall gone ∷ s) = stop
seen l (item wall (stays y n) ∷ s) = stop
seen l (item (load p v u) gone ∷ s) =
    let r = seen l s in by_group (eqb l p) (item (load p v u) gone) (gone_load v u) (group l s) (word l s) (pass r) (load_gone_lem r)
seen l (item (load p v u) (stays y n) ∷ s) =
    let r = seen l s in by_group (eqb l p) (item (load p v u) (stays y n)) (kept_load v) (group l s) (word l s) (pass r) (load_kept r)
seen l (item (store p v) gone ∷ s) =
    let r = seen l s in by_group (eqb l p) (item (store p v) gone) (gone_store v) (group l s) (word l s) (pass r) (store_gone_lem r)
seen l (item (store p v) (stays y n) ∷ s) =
    let r = seen l s in by_group (eqb l p) (item (store p v) (stays y n)) (kept_store v) (group l s) (word l s) (pass r) (store_kept r)

abbrev values : List Item → Option ℕ
values g = Option.map value_of (Option.map view_of (head? g))

seen_near : {g : List Item} {w : List Letter} → Seen g w → values g ≡ near_word w
seen_near end = refl
seen_near stop = refl
seen_near (pass r) = seen_near r
seen_near (load_gone_lem r) = refl
seen_near (load_kept r) = refl
seen_near (store_gone_lem r) = refl
seen_near (store_kept r) = refl

seen_stores : {g : List Item} {w : List Letter} → Seen g w → Stores (Option.map view_of (head? g)) ≡ T (stores_word w)
seen_stores end = refl
seen_stores stop = refl
seen_stores (pass r) = seen_stores r
seen_stores (load_gone_lem r) = refl
seen_stores (load_kept r) = refl
seen_stores (store_gone_lem r) = refl
seen_stores (store_kept r) = refl

seen_closing : {g : List Item} {w : List Letter} → Seen g w → closing g ≡ closing_word w
seen_closing end = refl
seen_closing stop = refl
seen_closing (pass r) = seen_closing r
seen_closing (load_gone_lem r) = seen_closing r
seen_closing (load_kept r) = refl
seen_closing (store_gone_lem r) = refl
seen_closing (store_kept r) = refl

witness_load : (p v : ℕ) (u : Bool) (g : List Item) (n k : Option ℕ) → values g ≡ n → witness g ≡ k
    → witness (item (load p v u) gone ∷ g) ≡ seed n v k
witness_load p v u [] n k e h = rw (← e)
witness_load p v u (f ∷ g) n k e h = rw (← e) h

pub witness_store : (p v : ℕ) (g : List Item) → witness (item (store p v) gone ∷ g) ≡ witness g
witness_store p v [] = refl
witness_store p v (f ∷ g) = refl

seen_witness : {g : List Item} {w : List Letter} → Seen g w → witness g ≡ witness_word w
seen_witness end = refl
seen_witness stop = refl
seen_witness (pass r) = seen_witness r
seen_witness (load_gone_lem {p = p} {v = v} {u = u} {g = g} {w = w} r) = witness_load p v u g (near_word w) (witness_word w) (seen_near r) (seen_witness r)
seen_witness (load_kept r) = refl
seen_witness (store_gone_lem {p = p} {v = v} {g = g} r) = witness_store p v g ∙ seen_witness r
seen_witness (store_kept r) = refl

pub near_word_lem : (l : ℕ) (s : List Item) → Option.map value_of (near l s) ≡ near_word (word l s)
near_word_lem l s = seen_near (seen l s)

stores_word_lem : (l : ℕ) (s : List Item) → Stores (near l s) ≡ T (stores_word (word l s))
stores_word_lem l s = seen_stores (seen l s)

closing_word_lem : (l : ℕ) (s : List Item) → closing (group l s) ≡ closing_word (word l s)
closing_word_lem l s = seen_closing (seen l s)

witness_word_lem : (l : ℕ) (s : List Item) → witness (group l s) ≡ witness_word (word l s)
witness_word_lem l s = seen_witness (seen l s)

-- ---- nearness, in the word

none_map : (o : Option View) → Option.map value_of o ≢ none → o ≢ none
none_map none h = absurd (h refl)
none_map (some e) h = some-ne-none e

map_none : (o : Option View) → o ≢ none → Option.map value_of o ≢ none
map_none none h = absurd (h refl)
map_none (some e) h = some-ne-none (value_of e)

map_holds : (o : Option View) (v : ℕ) → Holds v o → Option.map value_of o ≡ some v
map_holds none v h = absurd h
map_holds (some e) v h = ap some h

holds_map : (o : Option View) (v : ℕ) → Option.map value_of o ≡ some v → Holds v o
holds_map none v h = none≢some h
holds_map (some e) v h = some-injective (value_of e) v h

pub word_near : (l : ℕ) (s : List Item) → near l s ≢ none → near_word (word l s) ≢ none
word_near l s h = rw near_word_lem at (map_none (near l s) h)

pub near_of_word : (l : ℕ) (s : List Item) → near_word (word l s) ≢ none → near l s ≢ none
near_of_word l s h = none_map (near l s) (rw near_word_lem h)

pub word_holds : (l : ℕ) (s : List Item) (v : ℕ) → Holds v (near l s) → near_word (word l s) ≡ some v
word_holds l s v h = sym (near_word_lem l s) ∙ map_holds (near l s) v h

pub holds_of_word : (l : ℕ) (s : List Item) (v : ℕ) → near_word (word l s) ≡ some v → Holds v (near l s)
holds_of_word l s v h = holds_map (near l s) v (near_word_lem l s ∙ h)

pub stores_of_word : (l : ℕ) (s : List Item) → T (stores_word (word l s)) → Stores (near l s)
stores_of_word l s h = rw stores_word_lem h

pub word_stores : (l : ℕ) (s : List Item) → Stores (near l s) → T (stores_word (word l s))
word_stores l s h = rw (stores_word_lem l s) at h

-- ---- faults

fine₁ : (l : ℕ) (b : List Item) (e : Item) (a : List Item) → Sound₁ b e a → Fine₁ (word l b) (letter l e) (word l a)
fine₁ l b (item wall gone) a h = h
fine₁ l b (item wall (stays w n)) a h = tt
fine₁ l b (item (load p v u) gone) a h =
    by_place (λ x. Fine₁ (word l b) x (word l a)) l p (gone_load v u) tt (λ e. rw e (λ t. word_near p b (h t)))
fine₁ l b (item (load p v u) (stays w n)) a h = by_place (λ x. Fine₁ (word l b) x (word l a)) l p (kept_load v) tt (λ _. tt)
fine₁ l b (item (store p v) gone) a h =
    by_place (λ x. Fine₁ (word l b) x (word l a)) l p (gone_store v) tt
    (λ e. rw e (λ t. sym (witness_word_lem p b) ∙ h (rw (closing_word_lem p a) t)))
fine₁ l b (item (store p v) (stays w n)) a h = by_place (λ x. Fine₁ (word l b) x (word l a)) l p (kept_store v) tt (λ _. tt)

pub fine_of_sound : (l : ℕ) (b s : List Item) → Sound b s → Fine (word l b) (word l s)
fine_of_sound l b [] h = tt
fine_of_sound l b (e ∷ s) h = (fine₁ l b e s h.0, fine_of_sound l (e ∷ b) s h.1)

sound₁ : (b : List Item) (e : Item) (a : List Item) → ((l : ℕ) → Fine₁ (word l b) (letter l e) (word l a)) → Sound₁ b e a
sound₁ b (item v (stays w n)) a h = tt
sound₁ b (item wall gone) a h = h 0
sound₁ b (item (load p v u) gone) a h = λ t. near_of_word p b (at_own (λ x. Fine₁ (word p b) x (word p a)) p {x = gone_load v u} (h p) t)
sound₁ b (item (store p v) gone) a h =
    λ t. witness_word_lem p b ∙ at_own (λ x. Fine₁ (word p b) x (word p a)) p {x = gone_store v} (h p) (rw (closing_word_lem p a) at t)

pub sound_of_fine : (b s : List Item) → ((l : ℕ) → Fine (word l b) (word l s)) → Sound b s
sound_of_fine b [] h = tt
sound_of_fine b (e ∷ s) h = (sound₁ b e s (λ l. (h l).0), sound_of_fine (e ∷ b) s (λ l. (h l).1))

-- ---- a move, as a place sees it

pub cut_of : (l : ℕ) (b : List Item) (e : Item) (a : List Item) → Gone e → Removable b e a → Cut (word l b) (letter l e) (word l a)
cut_of l b (item v (stays w n)) a g r = absurd g
cut_of l b (item wall gone) a g r = absurd r
cut_of l b (item (load p v true) gone) a g r =
    by_place (λ x. Cut (word l b) x (word l a)) l p (gone_load v true) tt (λ e. rw e (word_holds p b v r))
cut_of l b (item (load p v false) gone) a g r = by_place (λ x. Cut (word l b) x (word l a)) l p (gone_load v false) tt (λ _. tt)
cut_of l b (item (store p v) gone) a g (inl r) =
    by_place (λ x. Cut (word l b) x (word l a)) l p (gone_store v) tt (λ e. rw e (inl (word_holds p b v r)))
cut_of l b (item (store p v) gone) a g (inr r) =
    by_place (λ x. Cut (word l b) x (word l a)) l p (gone_store v) tt (λ e. rw e (inr (word_stores p a r)))

pub apart_of : (l : ℕ) (p q : Option ℕ) (x y : Letter) → Differ p q → Apart (see l p x) (see l q y)
apart_of l none q x y d = absurd d
apart_of l (some p) none x y d = absurd d
apart_of l (some p) (some q) x y d =
    by_place (λ z. Apart z (cond (eqb l q) y far)) l p x left λ e.
    by_place (λ z. Apart x z) l q y right λ f.
    absurd (T_not (eqb p q) d (subst (λ z. T (eqb p z)) (sym e ∙ f) (eqb_refl p)))

pub step_of : (l : ℕ) {b s t : List Item} (m : Move one b s t) → Strict Gone m → Step (word l b) (word l s) (word l t)
step_of l (remove {b = b} {a = a} {e = e} r) g = cut (cut_of l b e a g r)
step_of l (swap {e = e} {f = f} d) g = flip (apart_of l (place e) (place f) (glyph e) (glyph f) d)
step_of l (next m) g = on (step_of l m g)

-- every load of a trace agrees with the near access before it
abbrev pub Agrees : List Item → Type 0
Agrees s = (l : ℕ) → Agree none (word l s)
