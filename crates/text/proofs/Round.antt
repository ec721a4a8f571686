-- Numbers written and read: what is written of a number is read as that number, and a word that is read as a number is what is written of it.
-- Assumes nothing.
use Prim.Native.Nat.{ℕ, zero, suc, ◌+◌, ◌-◌, ◌*◌, ◌/◌, ◌%◌, ◌≤◌, ◌<◌}
use mathlib.Core.Path.{◌≡◌, refl, sym, ◌∙◌}
use mathlib.Core.Bool.{Bool, true, false, ◌&&◌, and-false, false≢true}
use mathlib.Core.List.{List, [], ◌∷◌, ◌++◌, append-nil}
use native.Mathlib.Omega.{arith}
use lib.Dec.{leb}
use lib.ListN.{length, get_or, length-append, get_or-append}
use lib.Seq.{append_snoc}
use borrow.Author.Tests.{lt-ltb, le-ltb, le-leb, leb-true, ne_eqb}
use Rattle.laws.proofs.Bools.{and_left, and_right}
use Rattle.laws.proofs.Cases.{cases, side}
use Rattle.laws.proofs.Lists.{Free}
use Rattle.text.specs.Number.{is_digit, all_digits, value_on, digits_on, bad_start, number_of, dec, decimal}
use Rattle.std.specs.Prelude.{Some}
use Rattle.text.proofs.Decimals.{decimal_one, decimal_more}
use Rattle.text.proofs.Numbers.{read, on_value}

joined : (x y z : Bool) → (y ≡ true → z ≡ true) → (x && y) ≡ true → (x && z) ≡ true
joined true y z f e = f e
joined false y z f e = e

all_append : (l m : List ℕ) → all_digits l ≡ true → all_digits m ≡ true → all_digits (l ++ m) ≡ true
unfolding all_digits
all_append [] m p q = q
all_append (b ∷ l) m p q = joined (is_digit b) (all_digits l) (all_digits (l ++ m)) (λ e. all_append l m e q) p

value_snoc : (n : ℕ) (l : List ℕ) (b : ℕ) → value_on n (l ++ (b ∷ [])) ≡ value_on n l * 10 + (b - 48)
unfolding value_on
value_snoc n [] b = refl
value_snoc n (a ∷ l) b = value_snoc (n * 10 + (a - 48)) l b

one_digit : (d : ℕ) → d < 10 → all_digits ((48 + d) ∷ []) ≡ true
unfolding all_digits
one_digit d h = rw (le-leb 48 (48 + d) (omega arith), le-leb (48 + d) 57 (omega arith))

all_dec : (k n : ℕ) → all_digits (dec k n) ≡ true
unfolding dec all_digits
all_dec zero n = refl
all_dec (suc k) n =
    cases (side n 10) (λ h. rw (lt-ltb n 10 h) (one_digit n h))
    (λ h. rw (le-ltb n 10 h) (all_append (dec k (n / 10)) _ (all_dec k (n / 10)) (one_digit (n % 10) (omega arith))))

value_dec : (k n : ℕ) → n < k → value_on 0 (dec k n) ≡ n
unfolding dec value_on
value_dec zero n h = absurd (omega arith)
value_dec (suc k) n h =
    cases (side n 10) (λ p. rw (lt-ltb n 10 p) (omega arith))
    (λ p. rw (le-ltb n 10 p) (value_snoc 0 (dec k (n / 10)) (48 + n % 10) ∙ rw (value_dec k (n / 10) (omega arith)) (omega arith)))

-- the first digit of a number that is not 0 is not 0
first_dec : (k n : ℕ) → 0 < n → n < k → (0 < length (dec k n)) × (48 < get_or (dec k n) 0 0)
unfolding dec
first_dec zero n z h = absurd (omega arith)
first_dec (suc k) n z h =
    cases (side n 10) (λ p. rw (lt-ltb n 10 p) (omega arith))
    (λ p.
    let r : (0 < length (dec k (n / 10))) × (48 < get_or (dec k (n / 10)) 0 0) = first_dec k (n / 10) (omega arith) (omega arith) in
    rw (le-ltb n 10 p, length-append, get_or-append (dec k (n / 10)) ((48 + n % 10) ∷ []) 0 0 r.0) (omega arith))

good_start : (l : List ℕ) → 0 < length l → 48 < get_or l 0 0 → bad_start l ≡ false
good_start l h k =
    let q : length l ≡ 0 → ⊥ = λ e. omega arith in
    let s : get_or l 0 0 ≡ 48 → ⊥ = λ e. omega arith in
    simp (ne_eqb (length l) 0 q, ne_eqb (get_or l 0 0) 48 s, and-false)

start : (n : ℕ) → bad_start (decimal n) ≡ false
unfolding decimal dec
start n =
    cases (side n 1) (λ p. let e : n ≡ zero = omega arith in rw e)
    (λ p.
    let r : (0 < length (dec (suc n) n)) × (48 < get_or (dec (suc n) n) 0 0) = first_dec (suc n) n (omega arith) (omega arith) in
    good_start (dec (suc n) n) r.0 r.1)

-- a number written is read
pub round : (max n : ℕ) → n ≤ max → number_of max (decimal n) ≡ Some n
unfolding number_of digits_on decimal
round max n h = rw (start n, all_dec (suc n) n, value_dec (suc n) n (omega arith), le-leb n max h)

-- a number's digits are digits
pub decimal_digits : (n : ℕ) → all_digits (decimal n) ≡ true
unfolding decimal
decimal_digits n = all_dec (suc n) n

-- a byte that is no digit is not among digits
pub digits_free : (s : ℕ) → is_digit s ≡ false → (l : List ℕ) → all_digits l ≡ true → Free s l
unfolding all_digits
digits_free s h [] k = tt
digits_free s h (b ∷ l) k =
    let d : is_digit b ≡ true = and_left (is_digit b) (all_digits l) k in
    ((λ e. false≢true (sym h ∙ rw (← e) d)), digits_free s h l (and_right (is_digit b) (all_digits l) k))

-- so it is not in a number written: neither TAB nor LF is
pub decimal_free : (s : ℕ) → is_digit s ≡ false → (n : ℕ) → Free s (decimal n)
decimal_free s h n = digits_free s h (decimal n) (decimal_digits n)

pub decimal_no_tab : (n : ℕ) → Free 9 (decimal n)
decimal_no_tab n = decimal_free 9 refl n

pub decimal_no_lf : (n : ℕ) → Free 10 (decimal n)
decimal_no_lf n = decimal_free 10 refl n

-- a digit lies from 48 to 57
between : (b : ℕ) → is_digit b ≡ true → (48 ≤ b) × (b ≤ 57)
between b h = (leb-true 48 b (and_left (leb 48 b) (leb b 57) h), leb-true b 57 (and_right (leb 48 b) (leb b 57) h))

-- a digit written after those of a number that is not 0
decimal_snoc : (n b : ℕ) → 0 < n → is_digit b ≡ true → decimal n ++ (b ∷ []) ≡ decimal (n * 10 + (b - 48))
decimal_snoc n b z h =
    let k = between b h in
    let q : (n * 10 + (b - 48)) / 10 ≡ n = omega arith in
    let d : 48 + (n * 10 + (b - 48)) % 10 ≡ b = omega arith in
    sym (decimal_more (n * 10 + (b - 48)) (omega arith) ∙ rw (q, d))

grow : (n : ℕ) (l : List ℕ) → 0 < n → all_digits l ≡ true → decimal n ++ l ≡ decimal (value_on n l)
unfolding all_digits value_on
grow n [] z h = append-nil (decimal n)
grow n (b ∷ l) z h =
    sym (append_snoc (decimal n) b l) ∙ rw (decimal_snoc n b z (and_left (is_digit b) (all_digits l) h))
    (grow (n * 10 + (b - 48)) l (omega arith) (and_right (is_digit b) (all_digits l) h))

-- a 0 with something after it is a bad start
zero_start : (c : ℕ) (l : List ℕ) → bad_start (48 ∷ c ∷ l) ≡ true
zero_start c l =
    let some : length (48 ∷ c ∷ l) ≡ 0 → ⊥ = λ e. omega arith in
    rw (ne_eqb (length (48 ∷ c ∷ l)) 0 some, lt-ltb 1 (length (48 ∷ c ∷ l)) (omega arith))

back_zero : (l : List ℕ) → bad_start (48 ∷ l) ≡ false → 48 ∷ l ≡ decimal (value_on 0 l)
unfolding value_on decimal dec
back_zero [] s = refl
back_zero (c ∷ l) s = absurd (false≢true (sym s ∙ zero_start c l))

-- digits that start well are what is written of the number that they make
back : (l : List ℕ) → bad_start l ≡ false → all_digits l ≡ true → l ≡ decimal (value_on 0 l)
unfolding all_digits value_on
back [] s h = absurd (false≢true (sym s))
back (b ∷ l) s h =
    let k = between b (and_left (is_digit b) (all_digits l) h) in
    cases (side 48 b)
    (λ p.
    let d : 48 + (0 + (b - 48)) ≡ b = omega arith in
    let e : decimal (0 + (b - 48)) ≡ b ∷ [] = decimal_one (0 + (b - 48)) (omega arith) ∙ rw d in
    rw (← grow (0 + (b - 48)) l (omega arith) (and_right (is_digit b) (all_digits l) h), e))
    (λ p. let e : b ≡ 48 = omega arith in rw e (back_zero l (rw e at s)))

-- a word that is read as a number is what is written of it
pub read_back : (max : ℕ) (p : List ℕ) (n : ℕ) → number_of max p ≡ Some n → (p ≡ decimal n) × (n ≤ max)
read_back max p n e =
    let r = read max p n e in
    let v = on_value max 0 p n r.1 in
    (back p r.0 v.0 ∙ rw v.1.0, v.1.1)
