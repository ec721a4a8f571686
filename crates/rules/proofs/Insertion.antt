-- Faults 15 and 16: what a run inserts is supported, that is a load with a near access before it, and no later move takes that away, since swaps
-- and insertions leave what is near or bring more. Assumes nothing.
use mathlib.Core.Path.{◌≡◌, refl, sym, ◌∙◌, ap}
use mathlib.Core.Logic.{◌≢◌}
use mathlib.Core.Bool.{true, false}
use mathlib.Core.Option.{Option, none, some}
use mathlib.Core.List.{List, [], ◌∷◌}
use Prim.Native.Nat.{ℕ}
use lib.Dec.{eqb, eqb_refl, T_not}
use Rattle.rules.proofs.Item.{wall, load, store, gone, stays, Item, item, place, Insertable, Differ, Swappable, two, Move, insert, swap, next}
use Rattle.rules.proofs.Item.{Moves, done, step, Supported₁, Supported}
use Rattle.rules.proofs.Word.{Letter, far, a_wall, kept_load, kept_store, gone_load, gone_store, near_letter, fits, some≢none}
use Rattle.rules.proofs.WordMoves.{Apart, left, right}
use Rattle.rules.proofs.Place.{glyph, see, letter, near_at, by_place, word_near, near_of_word, word_holds, apart_of}

pub near_fits : (n : Option ℕ) (v : ℕ) → n ≢ none → fits n v → n ≡ some v
near_fits none v ne f = absurd (ne refl)
near_fits (some m) v ne f = ap some f

-- ---- and back

-- more may be near
pub near_more : (x : Letter) (n n' : Option ℕ) → (n ≢ none → n' ≢ none) → near_letter x n ≢ none → near_letter x n' ≢ none
near_more far n n' f h = f h
near_more (a_wall d) n n' f h = h
near_more (kept_load v) n n' f h = h
near_more (kept_store v) n n' f h = h
near_more (gone_load v u) n n' f h = h
near_more (gone_store v) n n' f h = h

pub supported₁_more : (b c : List Item) (e : Item) → ((l : ℕ) → near_at l b ≢ none → near_at l c ≢ none) → Supported₁ b e → Supported₁ c e
supported₁_more b c (item v gone) f h = tt
supported₁_more b c (item v (stays false n)) f h = tt
supported₁_more b c (item wall (stays true n)) f h = h
supported₁_more b c (item (load p v u) (stays true n)) f h = near_of_word p c (f p (word_near p b h))
supported₁_more b c (item (store p v) (stays true n)) f h = h

pub supported_more : (b c s : List Item) → ((l : ℕ) → near_at l b ≢ none → near_at l c ≢ none) → Supported b s → Supported c s
supported_more b c [] f h = tt
supported_more b c (e ∷ s) f h =
    (supported₁_more b c e f h.0, supported_more (e ∷ b) (e ∷ c) s (λ l. near_more (letter l e) (near_at l b) (near_at l c) (f l)) h.1)

-- an inserted item is supported, and so is what follows it
inserted : (b : List Item) (e : Item) (a : List Item) → Insertable b e → Supported b a → Supported₁ b e × Supported (e ∷ b) a
inserted b (item v gone) a i h = absurd i.0
inserted b (item v (stays false n)) a i h = absurd i.0
inserted b (item wall (stays true n)) a i h = absurd i.1
inserted b (item (load p v u) (stays true n)) a i h = (
  near_of_word p b (λ e. some≢none (sym (word_holds p b v i.1) ∙ e)),
  supported_more b (item (load p v u) (stays true n) ∷ b) a
      (λ l k. by_place (λ x. near_letter x (near_at l b) ≢ none) l p (kept_load v) k (λ _ e. some≢none e)) h,
)
inserted b (item (store p v) (stays true n)) a i h = absurd i.1

near_apart : {x y : Letter} (n : Option ℕ) → Apart x y → near_letter y (near_letter x n) ≢ none → near_letter x (near_letter y n) ≢ none
near_apart n left h = h
near_apart n right h = h

-- an item that may be swapped with e does not see it
unseen : (l : ℕ) (p : Option ℕ) (x : Letter) (n : Option ℕ) → Differ p (some l) → near_letter (see l p x) n ≢ none → n ≢ none
unseen l none x n d h = absurd d
unseen l (some p) x n d h = by_place (λ y. near_letter y n ≢ none → n ≢ none) l p x (λ k. k) (λ e. absurd (T_not (eqb p l) d (rw e (eqb_refl p)))) h

unseen' : (l : ℕ) (p : Option ℕ) (x : Letter) (n : Option ℕ) → Differ (some l) p → n ≢ none → near_letter (see l p x) n ≢ none
unseen' l none x n d h = absurd d
unseen' l (some p) x n d h = by_place (λ y. near_letter y n ≢ none) l p x h (λ e. absurd (T_not (eqb l p) d (rw e (eqb_refl p))))

forward : (b : List Item) (e f : Item) → Swappable e f → Supported₁ (e ∷ b) f → Supported₁ b f
forward b e (item v gone) d h = tt
forward b e (item v (stays false n)) d h = tt
forward b e (item wall (stays true n)) d h = h
forward b e (item (load p v u) (stays true n)) d h = near_of_word p b (unseen p (place e) (glyph e) (near_at p b) d (word_near p (e ∷ b) h))
forward b e (item (store p v) (stays true n)) d h = h

backward : (b : List Item) (e f : Item) → Swappable e f → Supported₁ b e → Supported₁ (f ∷ b) e
backward b (item v gone) f d h = tt
backward b (item v (stays false n)) f d h = tt
backward b (item wall (stays true n)) f d h = h
backward b (item (load p v u) (stays true n)) f d h = near_of_word p (f ∷ b) (unseen' p (place f) (glyph f) (near_at p b) d (word_near p b h))
backward b (item (store p v) (stays true n)) f d h = h

supported_move : {b s t : List Item} → Move two b s t → Supported b s → Supported b t
supported_move (insert {b = b} {a = a} {e = e} i) h = inserted b e a i h
supported_move (swap {b = b} {a = a} {e = e} {f = f} d) h = (
  forward b e f d h.1.0,
  (
    backward b e f d h.0,
    supported_more (f ∷ e ∷ b) (e ∷ f ∷ b) a
        (λ l. near_apart (near_at l b) (apart_of l (place e) (place f) (glyph e) (glyph f) d)) h.1.1,
  ),
)
supported_move (next m) h = (h.0, supported_move m h.1)

pub supported_moves : {b s t : List Item} → Moves two b s t → Supported b s → Supported b t
supported_moves done h = h
supported_moves (step m r) h = supported_moves r (supported_move m h)
