-- What the events of a trace and the entries of a matching add up to. Assumes nothing.
use mathlib.Core.Path.{◌≡◌, refl, ap}
use mathlib.Core.Bool.{Bool, true, false, not, ◌&&◌, false≢true}
use mathlib.Core.List.{List, [], ◌∷◌}
use Prim.Native.Nat.{ℕ, zero, suc, ◌+◌, ◌≤◌}
use native.Mathlib.Omega.{arith}
use lib.Dec.{ltb}
use lib.ListN.{length, get_or}
use borrow.Author.Tests.{le-ltb}
use Rattle.laws.proofs.Lists.{Each}
use Rattle.event.specs.declared.Event.{Event}
use Rattle.rules.specs.Fault.{is_gone, nth}
use Rattle.rules.specs.Run.{Tag, old, new, Traced, traced, tag_of, number}
use Rattle.rules.proofs.Entries.{From, from_here, from_next, from_start}
use Rattle.course.specs.Step.{leaves, overtakes, target_number}
use Rattle.course.specs.Cost.{bit, cost, is_kept, is_reversed, many, reversed}
use Rattle.course.specs.Promise.{pairs}

pub bit_le : (c : Bool) → bit c ≤ 1
bit_le true = omega arith
bit_le false = omega arith

abbrev pub total : (Traced → ℕ) → List Traced → ℕ
total f [] = 0
total f (x ∷ u) = f x + total f u

-- ---- what an event adds: it is new, gone, or not gone; and the pairs against the target's order

abbrev pub is_new : Tag → Bool
is_new (old i) = false
is_new (new k) = true

abbrev pub fresh : Traced → ℕ
fresh x = bit (is_new (tag_of x))

module _ (ns : List ℕ) where
  abbrev pub lost : Traced → ℕ
  lost x = bit (leaves ns (tag_of x))

  abbrev pub stays : Traced → ℕ
  stays x = bit (not (leaves ns (tag_of x)))

  abbrev pub below : Traced → Traced → ℕ
  below x y = bit (overtakes ns (tag_of x) (tag_of y))

  abbrev pub inverted : List Traced → ℕ
  inverted [] = 0
  inverted (x ∷ u) = total (below x) u + inverted u

  pub none_lost : (u : List Traced) → Each (λ x. leaves ns (tag_of x) ≡ false) u → total lost u ≡ 0
  none_lost [] h = refl
  none_lost (x ∷ u) h = let i : lost x ≡ 0 = rw h.0 in let j = none_lost u h.1 in omega arith

  -- a gone event stands in no pair
  pub below_gone : (x y : Traced) → leaves ns (tag_of y) ≡ true → below x y ≡ 0
  below_gone x y h = rw h

  gone_number : (n : ℕ) → is_gone n ≡ true → n ≡ 0
  gone_number zero h = refl
  gone_number (suc n) h = absurd (false≢true h)

  gone_target : (g : Tag) → leaves ns g ≡ true → target_number ns g ≡ 0
  gone_target (old i) h = gone_number (nth 0 ns i) h
  gone_target (new k) h = absurd (false≢true h)

  pub gone_below : (x : Traced) → leaves ns (tag_of x) ≡ true → (u : List Traced) → total (below x) u ≡ 0
  gone_below x h [] = refl
  gone_below x h (y ∷ u) =
      let i : below x y ≡ 0 = rw (gone_target (tag_of x) h) (none_below (leaves ns (tag_of y)) (target_number ns (tag_of y))) in
      let j = gone_below x h u in
      omega arith
    where
      none_below : (c : Bool) (k : ℕ) → bit (not c && ltb k 0) ≡ 0
      none_below true k = refl
      none_below false k = rw (le-ltb k 0 (omega arith))

-- ---- what the source's events add up to, by their entries

module _ (ns : List ℕ) where
  pub begins : (f : Traced → ℕ) (p : ℕ → Bool) → ((i : ℕ) (e : Event) → f (traced (old (suc i)) e) ≡ bit (p (get_or ns i 0)))
      → (i : ℕ) (r : List Event) (ks : List ℕ) → length ks ≡ length r → From 0 ns i ks → total f (number (suc i) r) ≡ many p ks
  begins f p q i [] [] l h = refl
  begins f p q i [] (k ∷ ks) l h = absurd (omega arith)
  begins f p q i (e ∷ r) [] l h = absurd (omega arith)
  begins f p q i (e ∷ r) (k ∷ ks) l h =
      let a : f (traced (old (suc i)) e) ≡ bit (p k) = rw (← from_here 0 ns i k ks h) (q i e) in
      let b = begins f p q (suc i) r ks (omega arith) (from_next 0 ns i k ks h) in
      omega arith

  -- what is below an event is kept, so that is the event
  pair_kept : (n k : ℕ) → (is_kept k && ltb k n) ≡ is_reversed n k
  pair_kept zero k = rw (le-ltb k 0 (omega arith)) (never (is_kept k))
    where
      never : (c : Bool) → (c && false) ≡ false
      never true = refl
      never false = refl
  pair_kept (suc n) k = refl

  inverted_begins : (i : ℕ) (r : List Event) (ks : List ℕ) → length ks ≡ length r → From 0 ns i ks → inverted ns (number (suc i) r) ≡ reversed ks
  inverted_begins i [] [] l h = refl
  inverted_begins i [] (k ∷ ks) l h = absurd (omega arith)
  inverted_begins i (e ∷ r) [] l h = absurd (omega arith)
  inverted_begins i (e ∷ r) (k ∷ ks) l h =
      let n = get_or ns i 0 in
      let a = begins (below ns (traced (old (suc i)) e)) (is_reversed n) (λ j _. ap bit (pair_kept n (get_or ns j 0))) (suc i) r ks (omega arith)
      (from_next 0 ns i k ks h) in
      let b = inverted_begins (suc i) r ks (omega arith) (from_next 0 ns i k ks h) in
      let c : many (is_reversed n) ks ≡ many (is_reversed k) ks = ap (λ z. many (is_reversed z) ks) (from_here 0 ns i k ks h) in
      omega arith

  fresh_begins : (i : ℕ) (r : List Event) → total fresh (number i r) ≡ 0
  fresh_begins i [] = refl
  fresh_begins i (e ∷ r) = let j = fresh_begins (suc i) r in omega arith

  -- the whole source
  module _ (s : List Event) (l : length ns ≡ length s) where
    pub lost_begin : total (lost ns) (number 1 s) ≡ many is_gone ns
    lost_begin = begins (lost ns) is_gone (λ i e. refl) 0 s ns l (from_start 0 ns)

    pub stays_begin : total (stays ns) (number 1 s) ≡ many is_kept ns
    stays_begin = begins (stays ns) is_kept (λ i e. refl) 0 s ns l (from_start 0 ns)

    pub inverted_begin : inverted ns (number 1 s) ≡ reversed ns
    inverted_begin = inverted_begins 0 s ns l (from_start 0 ns)

    pub fresh_begin : total fresh (number 1 s) ≡ 0
    fresh_begin = fresh_begins 1 s

-- ---- what the entries add up to

pub gone_or_kept : (ns : List ℕ) → many is_gone ns + many is_kept ns ≡ length ns
gone_or_kept [] = refl
gone_or_kept (zero ∷ ns) = let i = gone_or_kept ns in omega arith
gone_or_kept (suc n ∷ ns) = let i = gone_or_kept ns in omega arith

pub few : (p : ℕ → Bool) (ns : List ℕ) → many p ns ≤ length ns
few p [] = omega arith
few p (n ∷ ns) = let i = bit_le (p n) in let j = few p ns in omega arith

pub few_reversed : (ns : List ℕ) → reversed ns ≤ pairs (length ns)
few_reversed [] = omega arith
few_reversed (n ∷ ns) = let i = few (is_reversed n) ns in let j = few_reversed ns in omega arith

pub few_steps : (n : ℕ) (ns : List ℕ) → cost n ns ≤ length ns + pairs (length ns) + n
few_steps n ns = let i = few is_gone ns in let j = few_reversed ns in omega arith

pub length_number : (i : ℕ) (s : List Event) → length (number i s) ≡ length s
length_number i [] = refl
length_number i (e ∷ s) = let j = length_number (suc i) s in omega arith
