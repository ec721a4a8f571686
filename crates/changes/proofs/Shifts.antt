-- Numbers at the front of an array: one taken out, two exchanged, one put in, as the slice methods say. Assumes nothing.
use mathlib.Core.Path.{◌≡◌, refl, sym, ◌∙◌, ap}
use mathlib.Core.List.{List, [], ◌∷◌, ◌++◌, append_assoc}
use Prim.Native.Nat.{ℕ, zero, suc, ◌+◌, ◌-◌, ◌≤◌, ◌<◌}
use native.Mathlib.Omega.{arith}
use lib.ListN.{length, get_or, set, take, drop, length-append, length-drop, take-append-drop}
use lib.Seq.{get_or-take, length-take-le, paste, take-take}
use Rattle.std.specs.List.{copy_within, swap}
use Rattle.std.proofs.lemmas.List.{drop-take}
use Rattle.std.proofs.lemmas.List.Edits.{swap_is}
use Rattle.changes.specs.Inner.{exchanged, with_new, without}
use Rattle.changes.specs.Apply.{front}

-- numbers of a known length at the front
front_of : (ks A : List ℕ) (n : ℕ) → length ks ≡ n → front ks A ≡ ks ++ drop n A
front_of ks A n h = rw h

-- ---- one taken out of the first n

out : (i m : ℕ) (A : List ℕ) → suc i + m ≤ length A → paste A i (drop (suc i) A) m ≡ front (without i (take (suc i + m) A)) A
out i m A l =
    let X = take (suc i + m) A in
    let n : length X ≡ suc i + m = length-take-le (suc i + m) A l in
    let k : length (without i X) ≡ i + m = length-append (take i X) (drop (suc i) X)
    ∙ omega (arith, length-take-le i X (omega (arith, n)), length-drop (suc i) X, n) in
    sym (front_of (without i X) A (i + m) k ∙ rw (take-take i (suc i + m) A (omega arith), drop-take (suc i) m A) refl)

pub taken_out : (place n : ℕ) (A : List ℕ) → 0 < place → place ≤ n → n ≤ length A
    → copy_within A place n (place - 1) ≡ front (without (place - 1) (take n A)) A
taken_out zero n A z h l = absurd (omega arith)
taken_out (suc i) n A z h l =
    let e : suc i - 1 ≡ i = omega arith in
    let k : suc i + (n - suc i) ≡ n = omega arith in
    rw e (out i (n - suc i) A (omega arith) ∙ rw k refl)

-- ---- one put in among the first n

stored : (i m x : ℕ) (A : List ℕ) → i + m < length A
    → set (paste A (suc i) (drop i A) m) i x ≡ take i A ++ (x ∷ (take m (drop i A) ++ drop (suc i + m) A))
stored i m x [] l = absurd (omega arith)
stored zero m x (a ∷ A) l = refl
stored (suc i) m x (a ∷ A) l =
    let e : suc (suc i) + m ≡ suc (suc i + m) = omega arith in
    rw e (ap (λ r. a ∷ r) (stored i m x A (omega arith)))

into : (i m x : ℕ) (A : List ℕ) → i + m < length A → set (paste A (suc i) (drop i A) m) i x ≡ front (with_new i x (take (i + m) A)) A
into i m x A l =
    let X = take (i + m) A in
    let n : length X ≡ i + m = length-take-le (i + m) A (omega arith) in
    let k : length (with_new i x X) ≡ suc i + m = length-append (take i X) (x ∷ drop i X)
    ∙ omega (arith, length-take-le i X (omega (arith, n)), length-drop i X, n) in
    stored i m x A l ∙ sym (front_of (with_new i x X) A (suc i + m) k ∙ (append_assoc (take i X) (x ∷ drop i X) (drop (suc i + m) A)
    ∙ rw (take-take i (i + m) A (omega arith), drop-take i m A) refl))

pub put_in : (place n x : ℕ) (A : List ℕ) → 0 < place → place - 1 ≤ n → n < length A
    → set (copy_within A (place - 1) n place) (place - 1) x ≡ front (with_new (place - 1) x (take n A)) A
put_in zero n x A z h l = absurd (omega arith)
put_in (suc i) n x A z h l =
    let e : suc i - 1 ≡ i = omega arith in
    let k : i + (n - i) ≡ n = omega arith in
    rw e (into i (n - i) x A (omega arith) ∙ rw k refl)

-- ---- two exchanged among the first n

swapped : (i n y x : ℕ) (A : List ℕ) → suc i < n → n ≤ length A
    → take i (take n A) ++ (y ∷ x ∷ (drop (suc (suc i)) (take n A) ++ drop n A)) ≡ set (set A i y) (suc i) x
swapped i n y x [] h l = absurd (omega arith)
swapped i zero y x (a ∷ A) h l = absurd (omega arith)
swapped zero (suc n) y x (a ∷ []) h l = absurd (omega arith)
swapped zero (suc zero) y x (a ∷ b ∷ A) h l = absurd (omega arith)
swapped zero (suc (suc n)) y x (a ∷ b ∷ A) h l = ap (λ r. y ∷ x ∷ r) (take-append-drop n A)
swapped (suc i) (suc n) y x (a ∷ A) h l = ap (λ r. a ∷ r) (swapped i n y x A (omega arith) (omega arith))

exchanged_in : (i n : ℕ) (A : List ℕ) → suc i < n → n ≤ length A
    → set (set A i (get_or A (suc i) 0)) (suc i) (get_or A i 0) ≡ front (exchanged i (take n A)) A
exchanged_in i n A h l =
    let X = take n A in
    let x = get_or A i 0 in
    let y = get_or A (suc i) 0 in
    let m : length X ≡ n = length-take-le n A l in
    let k : length (take i X ++ y ∷ x ∷ drop (suc (suc i)) X) ≡ n = length-append (take i X) (y ∷ x ∷ drop (suc (suc i)) X)
    ∙ omega (arith, length-take-le i X (omega (arith, m)), length-drop (suc (suc i)) X, m) in
    rw (get_or-take n A i 0 (omega arith), get_or-take n A (suc i) 0 h)
    (sym (front_of (take i X ++ y ∷ x ∷ drop (suc (suc i)) X) A n k ∙ (append_assoc (take i X) (y ∷ x ∷ drop (suc (suc i)) X) (drop n A)
    ∙ swapped i n y x A h l)))

pub changed_over : (place n : ℕ) (A : List ℕ) → 0 < place → place < n → n ≤ length A
    → swap A (place - 1) place ≡ front (exchanged (place - 1) (take n A)) A
changed_over zero n A z h l = absurd (omega arith)
changed_over (suc i) n A z h l =
    let e : suc i - 1 ≡ i = omega arith in
    rw e (sym (swap_is A i (suc i) 0 (omega arith) (omega arith)) ∙ exchanged_in i n A h l)
