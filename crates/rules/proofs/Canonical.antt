-- The run in the fixed order: the last gone item that may be removed, as long as there is one; then the lowest place where two kept items stand
-- against the target's order; then the new items from the front on. Without faults it leads to the target. Assumes nothing.
use mathlib.Core.Bool.{true, false}
use mathlib.Core.List.{List, [], ◌∷◌}
use Prim.Native.Nat.{ℕ, suc}
use Rattle.laws.proofs.Lists.{Each}
use Rattle.rules.proofs.Item.{wall, load, store, gone, stays, Item, item, keep, sourced, Numbered, Supported, Likes, Faultless, Kept, Above}
use Rattle.rules.proofs.Item.{Gone, may}
use Rattle.rules.proofs.Word.{kept_load, near_word, Agree₁, Agree}
use Rattle.rules.proofs.Place.{word, at_own, word_near, holds_of_word}
use Rattle.rules.proofs.Order.{Exact, rising, rising_sourced}
use Rattle.rules.proofs.Insertion.{near_fits}
use Rattle.rules.proofs.Target.{print, numbered_like, word_like, supported_like, Given, Print, prints_likes}
use Rattle.rules.proofs.Greedy.{greedy}
use Rattle.rules.proofs.Sorting.{lowest}
use Rattle.rules.proofs.Image.{Over}
use Rattle.rules.proofs.Fixed.{Fill as FillOf, InOrder, full, leave, put}

abbrev Fill : List Item → List Item → List Item → Type 0
Fill b s t = FillOf may b s t

fill : (b t : List Item) (i : ℕ) → Numbered i t → ((l : ℕ) → Agree (near_word (word l b)) (word l t)) → Supported b t → Fill b (sourced t) t
fill b [] i n g h = full
fill b (item v gone ∷ t) i n g h = absurd n
fill b (item v (stays false m) ∷ t) i n g h = leave (fill (item v (stays false m) ∷ b) t (suc i) n.1 (λ l. (g l).1) h.1)
fill b (item wall (stays true m) ∷ t) i n g h = absurd h.0
fill b (item (load p v u) (stays true m) ∷ t) i n g h =
    let f = at_own (λ x. Agree₁ x (near_word (word p b))) p {x = kept_load v} (g p).0 in
    put (tt, holds_of_word p b v (near_fits (near_word (word p b)) v (word_near p b h.0) f))
    (fill (item (load p v u) (stays true m) ∷ b) t (suc i) n.1 (λ l. (g l).1) h.1)
fill b (item (store p v) (stays true m) ∷ t) i n g h = absurd h.0

-- the fixed order, of items
abbrev pub Canonical : List Item → List Item → Type 0
Canonical s t = InOrder may Gone Above s t

all_kept : (s : List Item) → Each Kept (keep s)
all_kept [] = tt
all_kept (item v gone ∷ s) = all_kept s
all_kept (item v (stays w n) ∷ s) = (tt, all_kept s)

pub canonical : (s t : List Item) → Given s t → Faultless s t → (u : List Item) × Over Print u t × Canonical s u
canonical s t g f =
    let r : (u : List Item) × Over Print u t × Exact (keep s) (sourced u) = print t g.matched in
    let k : Likes r.0 t = prints_likes r.1 in
    let n : Numbered 1 r.0 = numbered_like 1 k g.numbered in (
      r.0,
      r.1,
      record {
        kept = keep s;
        sorted = sourced r.0;
        removing = greedy s g.source f.lost;
        sorting = lowest (keep s) r.2 (rising_sourced r.0 (rising 1 r.0 n)) (all_kept s);
        inserting = fill [] r.0 1 n (λ l. rw (word_like l k) (g.target l)) (supported_like [] [] (λ l h. h) k f.extra);
      },
    )
