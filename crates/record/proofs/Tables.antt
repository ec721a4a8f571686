-- Laws of a table of words: the number of a word, row by row, and the word of that number. Each rule of the two tables is one test that is
-- computed over the table, so that a row more is proved with it. Assumes nothing.
use Prim.Native.Nat.{ℕ, zero, suc, ◌+◌, ◌≤◌, ◌<◌}
use mathlib.Core.Path.{◌≡◌, refl, sym, ◌∙◌}
use mathlib.Core.Bool.{Bool, true, false, ◌&&◌, not}
use mathlib.Core.List.{List, [], ◌∷◌, map}
use native.Mathlib.Omega.{arith}
use lib.Dec.{eqb, leb}
use native.Mathlib.Numerals.{add-one}
use lib.ListN.{length, get_or, drop, drop_of_length-le}
use lib.Seq.{drop-cons}
use borrow.Author.Tests.{eqb-true, leb-true, not-true}
use Rattle.laws.proofs.Bools.{and_left, and_right}
use Rattle.laws.proofs.Cases.{cases, either, side}
use Rattle.laws.proofs.Lists.{Free, every, every_at, every_each}
use Rattle.text.specs.Word.{same_bytes}
use Rattle.text.proofs.Words.{same_eq}
use Rattle.record.specs.Table.{word_in}
use Rattle.record.specs.Layout.{kind_words, order_words, init_word, word_at, number_in, kind_of, order_of}

module _ (n : ℕ) (v : List ℕ) (vs : List (List ℕ)) (w : List ℕ) where
  -- the word is the first
  pub number_hit : same_bytes w v ≡ true → number_in n (v ∷ vs) w ≡ n
  unfolding number_in
  number_hit h = rw h

  -- it is not
  pub number_miss : same_bytes w v ≡ false → number_in n (v ∷ vs) w ≡ number_in (suc n) vs w
  unfolding number_in
  number_miss h = rw h

-- the same of a table of rows, at the row i
module _ (rows : List (List ℕ)) (i : ℕ) (w : List ℕ) where
  pub row_hit : i < length rows → same_bytes w (word_in (get_or rows i [])) ≡ true → number_in i (map word_in (drop i rows)) w ≡ i
  row_hit h e = rw (drop-cons rows i [] h) (number_hit i _ _ w e)

  pub row_miss : i < length rows → same_bytes w (word_in (get_or rows i [])) ≡ false
      → number_in i (map word_in (drop i rows)) w ≡ number_in (i + 1) (map word_in (drop (i + 1) rows)) w
  row_miss h e = rw (drop-cons rows i [] h, add-one i) (number_miss i _ _ w e)

pub number_none : (n : ℕ) (w : List ℕ) → number_in n [] w ≡ 0
unfolding number_in
number_none n w = refl

pub row_none : (rows : List (List ℕ)) (i : ℕ) (w : List ℕ) → length rows ≤ i → number_in i (map word_in (drop i rows)) w ≡ 0
row_none rows i w h = rw (drop_of_length-le rows h) (number_none i w)

-- where a word that has a number is found
record Found (n : ℕ) (ws : List (List ℕ)) (w : List ℕ) : Type 0 where
  index : ℕ
  number : number_in n ws w ≡ n + index
  word : get_or ws index [] ≡ w

found : (n : ℕ) (ws : List (List ℕ)) (w : List ℕ) → (number_in n ws w ≡ 0 → ⊥) → Found n ws w
found n [] w h = absurd (h (number_none n w))
found n (v ∷ vs) w h =
    cases (either (same_bytes w v)) (λ e. record { index = zero; number = omega (arith, number_hit n v vs w e); word = sym (same_eq w v e) })
    (λ e.
    let m : number_in n (v ∷ vs) w ≡ number_in (suc n) vs w = number_miss n v vs w e in
    let r : Found (suc n) vs w = found (suc n) vs w (λ z. h (m ∙ z)) in
    record { index = suc r.index; number = omega (arith, m, r.number); word = r.word })

-- a word that has a number is the word of that number
pub word_of : (ws : List (List ℕ)) (w : List ℕ) → (number_in 1 ws w ≡ 0 → ⊥) → word_at ws (number_in 1 ws w) ≡ w
word_of ws w h =
    let r : Found 1 ws w = found 1 ws w h in
    let e : number_in 1 ws w ≡ suc r.index = omega (arith, r.number) in
    rw e r.word

-- whether each number up to n passes a test
abbrev pub up_to : (ℕ → Bool) → ℕ → Bool
up_to t zero = t zero
up_to t (suc n) = t (suc n) && up_to t n

pub each_to : (t : ℕ → Bool) (n : ℕ) → up_to t n ≡ true → (k : ℕ) → k ≤ n → t k ≡ true
each_to t zero h k l = let e : k ≡ zero = omega arith in rw e h
each_to t (suc n) h k l =
    cases (side k (suc n)) (λ p. each_to t n (and_right (t (suc n)) (up_to t n) h) k (omega arith))
    (λ p. let e : k ≡ suc n = omega arith in rw e (and_left (t (suc n)) (up_to t n) h))

-- the words of the kinds and of the orders are numbered right
pub kind_number : (k : ℕ) → k ≤ length kind_words → kind_of (word_at kind_words k) ≡ k
unfolding number_in same_bytes
kind_number k h = eqb-true _ _ (each_to (λ n. eqb (kind_of (word_at kind_words n)) n) (length kind_words) refl k h)

pub order_number : (o : ℕ) → o ≤ length order_words → order_of (word_at order_words o) ≡ o
unfolding number_in same_bytes
order_number o h = eqb-true _ _ (each_to (λ n. eqb (order_of (word_at order_words n)) n) (length order_words) refl o h)

-- none of the kinds' is `init`
pub kind_not_init : (k : ℕ) → same_bytes (word_at kind_words k) init_word ≡ false
unfolding same_bytes
kind_not_init k = not-true _ (every_at (λ w. not (same_bytes w init_word)) [] ([] ∷ kind_words) refl refl k)

-- no byte of a word is below 11, so neither TAB nor LF is in it
free : (s : ℕ) → s < 11 → (w : List ℕ) → every (leb 11) w ≡ true → Free s w
free s l w h = every_each (leb 11) (λ b. b ≡ s → ⊥) (λ b q e. omega (arith, leb-true 11 b q)) w h

pub kind_free : (s : ℕ) → s < 11 → (k : ℕ) → Free s (word_at kind_words k)
kind_free s l k = free s l (word_at kind_words k) (every_at (every (leb 11)) [] ([] ∷ kind_words) refl refl k)

pub order_free : (s : ℕ) → s < 11 → (o : ℕ) → Free s (word_at order_words o)
order_free s l o = free s l (word_at order_words o) (every_at (every (leb 11)) [] ([] ∷ order_words) refl refl o)

pub init_free : (s : ℕ) → s < 11 → Free s init_word
init_free s l = free s l init_word refl
