-- Starting values as a list and as cells: those of the cells that are to have a line, one by one, one more behind them, and cells filled with them.
-- Lines ascend, so that each way leads back. Assumes nothing.
use Prim.Native.Nat.{ℕ, zero, suc, ◌+◌, ◌-◌, ◌≤◌, ◌<◌}
use mathlib.Core.Bool.{Bool, true, false, cond}
use mathlib.Core.Path.{◌≡◌, refl, ◌∙◌, ap}
use mathlib.Core.List.{List, [], ◌∷◌, ◌++◌, append_assoc}
use native.Mathlib.Numerals.{add-one}
use native.Mathlib.Omega.{arith}
use lib.ListN.{length, get_or, set, replicate, drop, length-append, length-replicate, drop_of_length-le, replicate-append-replicate}
use lib.Seq.{append_snoc, set_at, set-append_seam, drop-cons}
use borrow.Author.Tests.{eq-eqb, ne_eqb}
use Rattle.laws.proofs.Cases.{cases, either}
use Rattle.laws.specs.Each.{Each}
use Rattle.uses.specs.Cover.{Start, lined, starts}
use Rattle.uses.specs.Cover.{filled}

-- no location from here on is to have a line
pub starts_none : (has : ℕ → ℕ → Bool) (l : ℕ) (vs : List ℕ) → ((j v : ℕ) → l ≤ j → has j v ≡ false) → starts has l vs ≡ []
unfolding starts
starts_none has l [] h = refl
starts_none has l (v ∷ vs) h = rw (h l v (omega arith)) (starts_none has (l + 1) vs (λ j w o. h j w (omega arith)))

-- what holds of each cell that is to have a line holds of each of them
pub starts_each : (has : ℕ → ℕ → Bool) (P : Start → Type 0) → ((j v : ℕ) → has j v ≡ true → P (j, v)) → (l : ℕ) (vs : List ℕ) → Each P (starts has l vs)
unfolding starts
starts_each has P f l [] = tt
starts_each has P f l (v ∷ vs) =
    let i = starts_each has P f (l + 1) vs in
    cases (either (has l v)) (λ e. rw e (f l v e, i)) (λ e. rw e i)

-- whether a location has a line: none before the first, and each by its own value
lined_below : (has : ℕ → ℕ → Bool) (l : ℕ) (vs : List ℕ) (p : ℕ) → p < l → lined (starts has l vs) p ≡ false
unfolding starts lined
lined_below has l [] p h = refl
lined_below has l (v ∷ vs) p h =
    let i = lined_below has (l + 1) vs p (omega arith) in
    cases (either (has l v)) (λ e. rw (e, ne_eqb l p (λ z. omega arith)) i) (λ e. rw e i)

lined_at : (has : ℕ → ℕ → Bool) (l : ℕ) (vs : List ℕ) (i : ℕ) → i < length vs → lined (starts has l vs) (l + i) ≡ has (l + i) (get_or vs i 0)
unfolding starts lined
lined_at has l [] i h = absurd (omega arith)
lined_at has l (v ∷ vs) zero h =
    let o : l + 0 ≡ l = omega arith in
    rw o (cases (either (has l v)) (λ e. rw (e, eq-eqb l l refl)) (λ e. rw e (lined_below has (l + 1) vs l (omega arith))))
lined_at has l (v ∷ vs) (suc i) h =
    let o : l + suc i ≡ l + 1 + i = omega arith in
    let r : lined (starts has (l + 1) vs) (l + suc i) ≡ has (l + suc i) (get_or vs i 0) = rw o (lined_at has (l + 1) vs i (omega arith)) in
    cases (either (has l v)) (λ e. rw (e, ne_eqb l (l + suc i) (λ z. omega arith)) r) (λ e. rw e r)

pub lined_starts : (has : ℕ → ℕ → Bool) (vs : List ℕ) (p : ℕ) → p < length vs → lined (starts has 0 vs) p ≡ has p (get_or vs p 0)
lined_starts has vs p h = let o : 0 + p ≡ p = omega arith in rw o at (lined_at has 0 vs p h)

-- the cell at hand, and those after it
module _ (has : ℕ → ℕ → Bool) (cells : List ℕ) (l : ℕ) where
  pub starts_next : l < length cells
      → starts has l (drop l cells)
      ≡ cond (has l (get_or cells l 0)) ((l, get_or cells l 0) ∷ starts has (l + 1) (drop (l + 1) cells)) (starts has (l + 1) (drop (l + 1) cells))
  unfolding starts
  starts_next h = let d : drop l cells ≡ get_or cells l 0 ∷ drop (l + 1) cells = rw (add-one l) (drop-cons cells l 0 h) in ap (starts has l) d

  pub starts_end : length cells ≤ l → starts has l (drop l cells) ≡ []
  unfolding starts
  starts_end h = rw (drop_of_length-le cells h)

-- one line more, behind all others
grown : (has has' : ℕ → Bool) (l i v : ℕ) (vs : List ℕ) → i < length vs → ((j : ℕ) → l + i ≤ j → has j ≡ false) → has' (l + i) ≡ true
    → ((j : ℕ) → (j ≡ l + i → ⊥) → has' j ≡ has j)
    → starts (λ j w. has' j) l (set vs i v) ≡ starts (λ j w. has j) l vs ++ (l + i, v) ∷ []
unfolding starts
grown has has' l i v [] h none here others = absurd (omega arith)
grown has has' l zero v (w ∷ ws) h none here others =
    let o : l + 0 ≡ l = omega arith in
    let a : has' l ≡ true = rw o at here in
    let b : starts (λ j x. has' j) (l + 1) ws ≡ [] =
    starts_none _ (l + 1) ws (λ j x z. others j (λ y. omega arith) ∙ none j (omega arith)) in
    let c : starts (λ j x. has j) (l + 1) ws ≡ [] = starts_none _ (l + 1) ws (λ j x z. none j (omega arith)) in
    rw (a, none l (omega arith), b, c, o)
grown has has' l (suc i) v (w ∷ ws) h none here others =
    let o : l + suc i ≡ l + 1 + i = omega arith in
    let r : starts (λ j x. has' j) (l + 1) (set ws i v) ≡ starts (λ j x. has j) (l + 1) ws ++ (l + suc i, v) ∷ [] =
    rw o (grown has has' (l + 1) i v ws (omega arith) (λ j z. none j (omega arith)) (rw o at here) (λ j z. others j (λ y. z (omega arith)))) in
    let e : has' l ≡ has l = others l (λ z. omega arith) in
    cases (either (has l)) (λ d. rw (e, d, r)) (λ d. rw (e, d, r))

pub starts_more : (has has' : ℕ → Bool) (p v : ℕ) (vs : List ℕ) → p < length vs → ((j : ℕ) → p ≤ j → has j ≡ false) → has' p ≡ true
    → ((j : ℕ) → (j ≡ p → ⊥) → has' j ≡ has j) → starts (λ j w. has' j) 0 (set vs p v) ≡ starts (λ j w. has j) 0 vs ++ (p, v) ∷ []
starts_more has has' p v vs h none here others =
    let o : 0 + p ≡ p = omega arith in
    rw o at (grown has has' 0 p v vs h (λ j z. none j (omega arith)) (rw o here) (λ j z. others j (rw o at z)))

-- strictly ascending locations, from a lowest on
abbrev pub Rising : ℕ → List Start → Type 0
Rising low [] = Unit {0}
Rising low (i ∷ is) = ((low ≤ i.0) × (i.0 < 256)) × Rising (i.0 + 1) is

pub rising_starts : (has : ℕ → ℕ → Bool) (low l : ℕ) (vs : List ℕ) → low ≤ l → l + length vs ≤ 256 → Rising low (starts has l vs)
unfolding starts
rising_starts has low l [] o b = tt
rising_starts has low l (v ∷ vs) o b =
    cases (either (has l v)) (λ e. rw e ((o, omega arith), rising_starts has (l + 1) (l + 1) vs (omega arith) (omega arith)))
    (λ e. rw e (rising_starts has low (l + 1) vs (omega arith) (omega arith)))

rising_below : (low : ℕ) (is : List Start) → Rising low is → (l : ℕ) → l < low → lined is l ≡ false
unfolding lined
rising_below low [] h l o = refl
rising_below low (i ∷ is) h l o = rw (ne_eqb i.0 l (λ z. omega (arith, h.0))) (rising_below (i.0 + 1) is h.1 l (omega (arith, h.0)))

pub rising_none : (is : List Start) → Rising 256 is → is ≡ []
rising_none [] h = refl
rising_none (i ∷ is) h = absurd (omega (arith, h.0))

-- cells that are 0, filled with the starting values of cells, are those cells, if each that is not 0 is to have a line
pub filled_starts : (has : ℕ → ℕ → Bool) → ((l v : ℕ) → has l v ≡ false → v ≡ 0) → (w vs : List ℕ)
    → filled (w ++ replicate (length vs) 0) (starts has (length w) vs) ≡ w ++ vs
unfolding starts
filled_starts has z w [] = refl
filled_starts has z w (v ∷ vs) =
    let n : length (w ++ (v ∷ [])) ≡ length w + 1 = length-append w (v ∷ []) in
    let i : filled ((w ++ (v ∷ [])) ++ replicate (length vs) 0) (starts has (length w + 1) vs) ≡ (w ++ (v ∷ [])) ++ vs =
    rw n at (filled_starts has z (w ++ (v ∷ [])) vs) in
    let j : filled (w ++ v ∷ replicate (length vs) 0) (starts has (length w + 1) vs) ≡ w ++ v ∷ vs = simp append_snoc at i in
    cases (either (has (length w) v)) (λ e. rw e (ap (λ (c : List ℕ). filled c (starts has (length w + 1) vs)) (set-append_seam w 0 (replicate (length vs) 0) v) ∙ j))
    (λ e. rw (e, z (length w) v e) (rw (z (length w) v e) at j))

-- and starting values that ascend are those of the cells that they fill, if they are those that are to have a line: each of them is, and a 0 without
-- one is not
pub record Agrees (has : ℕ → ℕ → Bool) (low : ℕ) (is : List Start) : Type 0 where
  pub wanted : Each (λ i. has i.0 i.1 ≡ true) is
  pub others : (l : ℕ) → low ≤ l → lined is l ≡ false → has l 0 ≡ false

module _ (has : ℕ → ℕ → Bool) where
  -- after cells w that are settled, with n more that are 0 so far
  record Kept (w : List ℕ) (n : ℕ) (is : List Start) : Type 0 where
    cells : List ℕ
    start : filled (w ++ replicate n 0) is ≡ w ++ cells
    same : starts has (length w) cells ≡ is

  -- cells that are 0 and have no line
  pass : (l j : ℕ) (vs : List ℕ) → ((i : ℕ) → l ≤ i → i < l + j → has i 0 ≡ false) → starts has l (replicate j 0 ++ vs) ≡ starts has (l + j) vs
  unfolding starts
  pass l zero vs h = let e : l + 0 ≡ l = omega arith in rw e
  pass l (suc j) vs h =
      let e : l + suc j ≡ l + 1 + j = omega arith in
      rw (e, h l (omega arith) (omega arith)) (pass (l + 1) j vs (λ i a b. h i (omega arith) (omega arith)))

  zeros : (l n : ℕ) → ((i : ℕ) → l ≤ i → has i 0 ≡ false) → starts has l (replicate n 0) ≡ []
  unfolding starts
  zeros l zero h = refl
  zeros l (suc n) h = rw (h l (omega arith)) (zeros (l + 1) n (λ i a. h i (omega arith)))

  -- one starting value, after j cells that are 0 and with m cells after it
  module _ (w : List ℕ) (j m v : ℕ) where
    abbrev next : List ℕ
    next = w ++ replicate j 0 ++ (v ∷ [])

    next_length : length next ≡ length w + j + 1
    next_length = simp (length-append, length-replicate)

    next_cells : set (w ++ replicate (j + suc m) 0) (length w + j) v ≡ next ++ replicate m 0
    next_cells =
        let n : length (w ++ replicate j 0) ≡ length w + j = simp (length-append, length-replicate) in
        rw (← replicate-append-replicate {A = ℕ} j (suc m) 0, ← append_assoc, set_at (w ++ replicate j 0) 0 (replicate m 0) v (length w + j) n, append_snoc)

    one_more : (p : ℕ) → p ≡ length w + j → (is : List Start) → ((i : ℕ) → length w ≤ i → i < length w + j → has i 0 ≡ false) → has p v ≡ true
        → Kept next m is → Kept w (j + suc m) ((p, v) ∷ is)
    unfolding starts
    one_more p c is none here k = rw c record {
      cells = replicate j 0 ++ v ∷ k.cells;
      start = rw next_cells (k.start ∙ simp append_assoc);
      same = pass (length w) j (v ∷ k.cells) none ∙ rw (rw c at here, ← next_length) (ap (λ (js : List Start). (length w + j, v) ∷ js) k.same);
    }

  kept : (is : List Start) (w : List ℕ) (n : ℕ) → length w + n ≡ 256 → Rising (length w) is → Agrees has (length w) is → Kept w n is
  unfolding lined
  kept [] w n b r a = record { cells = replicate n 0; start = refl; same = zeros (length w) n (λ i o. a.others i o refl) }
  kept ((p, v) ∷ is) w n b r a =
      let j : ℕ = p - length w in
      let m : ℕ = 255 - p in
      let c : p ≡ length w + j = omega (arith, r.0) in
      let d : n ≡ j + suc m = omega (arith, r.0) in
      let e : length (next w j m v) ≡ p + 1 = next_length w j m v ∙ rw (← c) in
      let none : (i : ℕ) → length w ≤ i → i < length w + j → has i 0 ≡ false =
      (λ i o q. a.others i o (rw (ne_eqb p i (λ z. omega arith)) (rising_below (p + 1) is r.1 i (omega arith)))) in
      let rest : Agrees has (length (next w j m v)) is = record {
        wanted = a.wanted.1;
        others = λ l o z. a.others l (omega arith) (rw (ne_eqb p l (λ y. omega arith)) z);
      } in
      rw d (one_more w j m v p c is none a.wanted.0 (kept is (next w j m v) m (omega (arith, e, r.0)) (rw e r.1) rest))

  pub starts_filled : (is : List Start) → Rising 0 is → Agrees has 0 is → starts has 0 (filled (replicate 256 0) is) ≡ is
  starts_filled is r a = let k = kept is [] 256 refl r a in ap (starts has 0) k.start ∙ k.same
