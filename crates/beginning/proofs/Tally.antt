-- How the count goes on, entry by entry. Assumes nothing.
use mathlib.Core.Path.{◌≡◌, refl, ◌∙◌, ap}
use mathlib.Core.Logic.{◌≢◌}
use mathlib.Core.List.{List, [], ◌∷◌}
use mathlib.Core.Bool.{Bool, not, ◌&&◌}
use lib.Dec.{eqb, ltb, eqb-suc-zero}
use Prim.Native.Nat.{ℕ, zero, suc, ◌+◌, ◌*◌, ◌-◌, ◌≤◌, ◌<◌}
use native.Mathlib.Omega.{arith}
use lib.ListN.{length, get_or, drop, take, length-drop}
use lib.Seq.{drop-cons, take_all}
use borrow.Author.Tests.{le-ltb}
use Rattle.rules.specs.Fault.{is_gone}
use Rattle.course.specs.Cost.{bit, is_kept, is_reversed, many, reversed}
use Rattle.course.proofs.Counts.{few}

-- ---- the pairs of one entry

-- the test of a later entry
abbrev pub falls : ℕ → ℕ → Bool
falls n k = not (eqb k 0) && ltb k n

pub falls_is : (n k : ℕ) → falls n k ≡ is_reversed n k
falls_is zero zero = refl
falls_is zero (suc k) = rw (eqb-suc-zero k, le-ltb (suc k) 0 (omega arith)) refl
falls_is (suc n) zero = refl
falls_is (suc n) (suc k) = rw (eqb-suc-zero k) refl

-- the entries before an index are counted
pub record Counted (ns : List ℕ) (steps kept i : ℕ) : Type 0 where
  pub inside : i ≤ length ns
  pub small : steps ≤ i * 800
  pub kept_few : kept ≤ i
  pub so_far : many is_gone ns + reversed ns ≡ steps + (many is_gone (drop i ns) + reversed (drop i ns))
  pub kept_so_far : many is_kept ns ≡ kept + many is_kept (drop i ns)

module _ (ns : List ℕ) (steps kept i : ℕ) (c : Counted ns steps kept i) (l : i < length ns) (few-all : length ns ≤ 800) where
  here : drop i ns ≡ get_or ns i 0 ∷ drop (suc i) ns
  here = drop-cons ns i 0 l

  gone_pairs : (ks : List ℕ) → many (is_reversed 0) ks ≡ 0
  gone_pairs [] = refl
  gone_pairs (k ∷ ks) = let i = gone_pairs ks in omega arith

  pub one_gone : (j : ℕ) → j ≡ suc i → get_or ns i 0 ≡ 0 → Counted ns (steps + 1) kept j
  one_gone j e z =
      let d : drop i ns ≡ 0 ∷ drop (suc i) ns = here ∙ ap (λ n. n ∷ drop (suc i) ns) z in
      let a = c.so_far ∙ ap (λ ks. steps + (many is_gone ks + reversed ks)) d in
      let b = c.kept_so_far ∙ ap (λ ks. kept + many is_kept ks) d in
      let p = gone_pairs (drop (suc i) ns) in
      let s = c.small in
      let f = c.kept_few in
      rw e (record { inside = l; small = omega arith; kept_few = omega arith; so_far = omega arith; kept_so_far = omega arith })

  pub one_kept : (j pairs : ℕ) → j ≡ suc i → get_or ns i 0 ≢ 0 → pairs ≡ many (is_reversed (get_or ns i 0)) (take (length ns - j) (drop j ns))
      → Counted ns (steps + pairs) (kept + 1) j
  one_kept j pairs e ne r =
      let n = get_or ns i 0 in
      let whole = take_all (length ns - j) (drop j ns) (omega (arith, length-drop j ns)) in
      let q : pairs ≡ many (is_reversed n) (drop (suc i) ns) = r ∙ (ap (many (is_reversed n)) whole ∙ ap (λ k. many (is_reversed n) (drop k ns)) e) in
      let a = c.so_far ∙ ap (λ ks. steps + (many is_gone ks + reversed ks)) here in
      let b = c.kept_so_far ∙ ap (λ ks. kept + many is_kept ks) here in
      let z = stands n ne in
      let z0 = z.0 in
      let z1 = z.1 in
      let p = few (is_reversed n) (drop (suc i) ns) in
      let m = length-drop (suc i) ns in
      let s = c.small in
      let f = c.kept_few in
      rw e (record { inside = l; small = omega arith; kept_few = omega arith; so_far = omega arith; kept_so_far = omega arith })
    where
      stands : (n : ℕ) → n ≢ 0 → (bit (is_gone n) ≡ 0) × (bit (is_kept n) ≡ 1)
      stands zero ne = absurd (ne refl)
      stands (suc n) ne = (refl, refl)
