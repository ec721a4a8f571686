-- Entries that answers 8 and 9 leave: as many as the source events, each kept number one of the target's, and no number twice. The answer looks
-- back from each entry; here no number comes again. Assumes nothing.
use mathlib.Core.Path.{◌≡◌, refl, ◌∙◌, ap}
use mathlib.Core.Logic.{◌≢◌}
use mathlib.Core.Bool.{Bool, true, false, not, cond, ◌&&◌, ◌||◌}
use mathlib.Core.List.{List, [], ◌∷◌}
use Prim.Native.Nat.{ℕ, zero, suc, ◌+◌, ◌≤◌}
use native.Mathlib.Omega.{arith}
use lib.Dec.{T, eqb, ltb, eqb→eq, eqb_refl, T_not}
use lib.ListN.{length, get_or}
use borrow.Author.Tests.{ltb-false, eqb-true}
use Rattle.laws.specs.Has.{has}
use Rattle.event.specs.declared.Event.{Event}
use Rattle.event.specs.Answer.{answer, done}
use Rattle.event.specs.declared.Answer.{Answer}
use Rattle.rules.specs.Fault.{is_gone}
use Rattle.rules.specs.Verdict.{count_answer, entry_answer}
use Rattle.rules.proofs.Truth.{or_left}

-- each kept number is one of n, and none of b or of an earlier entry
abbrev Fits : ℕ → List ℕ → List ℕ → Type 0
Fits n b [] = Unit {0}
Fits n b (k ∷ ks) = (k ≢ 0 → (k ≤ n) × T (not (has k b))) × Fits n (k ∷ b) ks

past : (c : Bool) (i : ℕ) (r : Answer) → cond c (answer 9 3 i) r ≡ done → T (not c) × (r ≡ done)
past true i r h = let z : ◌≡◌ {A = ℕ} 9 0 = ap (λ (a : Answer). a.number) h in absurd (omega arith)
past false i r h = (tt, h)

inside : (k n : ℕ) (c : Bool) → T (not (not (is_gone k) && (ltb n k || c))) → k ≢ 0 → (k ≤ n) × T (not c)
inside zero n c h ne = absurd (ne refl)
inside (suc k) n c h ne = go (ltb n (suc k)) refl h
  where
    go : (d : Bool) → ltb n (suc k) ≡ d → T (not (d || c)) → (suc k ≤ n) × T (not c)
    go true e h = absurd h
    go false e h = (ltb-false n (suc k) e, h)

fits_of : (n i : ℕ) (b ks : List ℕ) → entry_answer n i b ks ≡ done → Fits n b ks
unfolding entry_answer
fits_of n i b [] h = tt
fits_of n i b (k ∷ ks) h =
    let q = past (not (is_gone k) && (ltb n k || has k b)) i (entry_answer n (suc i) (k ∷ b) ks) h in
    (inside k n (has k b) q.0, fits_of n (suc i) (k ∷ b) ks q.1)

-- ---- the target has the numbers

abbrev pub Within : ℕ → List ℕ → Type 0
Within n [] = Unit {0}
Within n (k ∷ ks) = (k ≢ 0 → k ≤ n) × Within n ks

within : (n : ℕ) (b ks : List ℕ) → Fits n b ks → Within n ks
within n b [] h = tt
within n b (k ∷ ks) h = (λ ne. (h.0 ne).0, within n (k ∷ b) ks h.1)

-- ---- no number comes again

abbrev pub Once : List ℕ → Type 0
Once [] = Unit {0}
Once (k ∷ ks) = (k ≢ 0 → T (not (has k ks))) × Once ks

later : (n j : ℕ) (b ks : List ℕ) → j ≢ 0 → Fits n b ks → T (has j b) → T (not (has j ks))
later n j b [] ne h t = tt
later n j b (k ∷ ks) ne h t = go (eqb j k) refl (later n j (k ∷ b) ks ne h.1)
  where
    go : (c : Bool) → eqb j k ≡ c → (T (c || has j b) → T (not (has j ks))) → T (not (c || has j ks))
    go true e ih = let i : j ≡ k = eqb-true j k e in absurd (T_not (has k b) (h.0 (λ z. ne (i ∙ z))).1 (rw i at t))
    go false e ih = ih t

once : (n : ℕ) (b ks : List ℕ) → Fits n b ks → Once ks
once n b [] h = tt
once n b (k ∷ ks) h = (λ ne. later n k (k ∷ b) ks ne h.1 (or_left (eqb k k) (has k b) (eqb_refl k)), once n (k ∷ b) ks h.1)

-- ---- what answers 8 and 9 leave

pub record Entries (n : ℕ) (s : List Event) (ks : List ℕ) : Type 0 where
  pub many : length ks ≡ length s
  pub within_n : Within n ks
  pub used_once : Once ks

counted : (c : Bool) (n : ℕ) → cond c done (answer 8 3 n) ≡ done → T c
counted true n h = tt
counted false n h = let z : ◌≡◌ {A = ℕ} 8 0 = ap (λ (a : Answer). a.number) h in absurd (omega arith)

pub entries : (n : ℕ) (s : List Event) (ks : List ℕ) → count_answer s ks ≡ done → entry_answer n 1 [] ks ≡ done → Entries n s ks
unfolding count_answer
entries n s ks h k = record {
  many = eqb→eq (length ks) (length s) (counted (eqb (length ks) (length s)) (length ks) h);
  within_n = within n [] ks (fits_of n 1 [] ks k);
  used_once = once n [] ks (fits_of n 1 [] ks k);
}

-- ---- looking up by number

-- a list is another from its element k on
abbrev pub From : {A : Type 0} → A → List A → ℕ → List A → Type 0
From d l k l' = (j i : ℕ) → i ≡ k + j → get_or l i d ≡ get_or l' j d

pub from_start : {A : Type 0} (d : A) (l : List A) → From d l 0 l
from_start d l j i e = let q : i ≡ j = omega arith in ap (λ x. get_or l x d) q

pub from_next : {A : Type 0} (d : A) (l : List A) (k : ℕ) (x : A) (l' : List A) → From d l k (x ∷ l') → From d l (suc k) l'
from_next d l k x l' f j i e = f (suc j) i (omega arith)

pub from_here : {A : Type 0} (d : A) (l : List A) (k : ℕ) (x : A) (l' : List A) → From d l k (x ∷ l') → get_or l k d ≡ x
from_here d l k x l' f = f 0 k (omega arith)

pub within_at : (n : ℕ) (ks : List ℕ) → Within n ks → (j : ℕ) → get_or ks j 0 ≢ 0 → get_or ks j 0 ≤ n
within_at n [] h j ne = absurd (ne refl)
within_at n (k ∷ ks) h zero ne = h.0 ne
within_at n (k ∷ ks) h (suc j) ne = within_at n ks h.1 j ne
