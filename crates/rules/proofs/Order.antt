-- Fault 12: a target is in order, and what is gone is in nobody's way; so a source with a run to a target shows none. Looking back from each item or
-- ahead from it says the same. Assumes nothing.
use mathlib.Core.Path.{◌≡◌}
use mathlib.Core.Bool.{Bool, true, false}
use mathlib.Core.List.{List, [], ◌∷◌}
use Prim.Native.Nat.{ℕ, suc, ◌≤◌}
use native.Mathlib.Omega.{arith}
use Rattle.laws.proofs.Lists.{Each, each_all, each_imp}
use Rattle.rules.proofs.Item.{View, gone, stays, Item, item, Swappable, Above, Orderly, sourced, Numbered}
use Rattle.rules.proofs.Item.{Pull, here, there, Clash, Gone, Ordered}
use Rattle.rules.proofs.Chain.{all_zip}

-- the same items, in some order
pub data Exact : List Item → List Item → Type 0 where
  none_left : Exact [] []
  pick : {f : Item} {s s' t : List Item} → Pull f s s' → Exact s' t → Exact s (f ∷ t)

-- ---- all of a list

pub all_unpull : (P : Item → Type 0) {f : Item} {s t : List Item} → Pull f s t → P f → Each P t → Each P s
all_unpull P here x h = (x, h)
all_unpull P (there p) x h = (h.0, all_unpull P p x h.1)

pub all_match : (P : Item → Type 0) {s t : List Item} → Exact s t → Each P t → Each P s
all_match P none_left h = tt
all_match P (pick p m) h = all_unpull P p h.0 (all_match P m h.1)

all_sourced : (P : Item → Type 0) (s : List Item) → Each P s → Each P (sourced s)
all_sourced P [] h = tt
all_sourced P (item v gone ∷ s) h = all_sourced P s h.1
all_sourced P (item v (stays true n) ∷ s) h = all_sourced P s h.1
all_sourced P (item v (stays false n) ∷ s) h = (h.0, all_sourced P s h.1)

-- ---- sorting

-- each item has a smaller number than all after it
abbrev pub Rising : List Item → Type 0
Rising [] = Unit {0}
Rising (e ∷ s) = Each (λ f. Above f e) s × Rising s

abbrev From : ℕ → Item → Type 0
From n (item v gone) = ⊥
From n (item v (stays w m)) = n ≤ m

from_less : (n : ℕ) (e : Item) → From (suc n) e → From n e
from_less n (item v gone) h = h
from_less n (item v (stays w m)) h = omega arith

from : (n : ℕ) (t : List Item) → Numbered n t → Each (From n) t
from n [] h = tt
from n (item v gone ∷ t) h = absurd h
from n (item v (stays w m) ∷ t) h = (omega arith, each_imp (From (suc n)) (From n) (from_less n) t (from (suc n) t h.1))

above : (n : ℕ) (v : View) (w : Bool) (m : ℕ) → m ≡ n → (f : Item) → From (suc n) f → Above f (item v (stays w m))
above n v w m e (item v' gone) h = absurd h
above n v w m e (item v' (stays w' m')) h = omega arith

pub rising : (n : ℕ) (t : List Item) → Numbered n t → Rising t
rising n [] h = tt
rising n (item v gone ∷ t) h = absurd h
rising n (item v (stays w m) ∷ t) h =
    (each_imp (From (suc n)) (λ f. Above f (item v (stays w m))) (above n v w m h.0) t (from (suc n) t h.1), rising (suc n) t h.1)

pub rising_sourced : (t : List Item) → Rising t → Rising (sourced t)
rising_sourced [] h = tt
rising_sourced (item v gone ∷ t) h = rising_sourced t h.1
rising_sourced (item v (stays true n) ∷ t) h = rising_sourced t h.1
rising_sourced (item v (stays false n) ∷ t) h = (all_sourced (λ f. Above f (item v (stays false n))) t h.0, rising_sourced t h.1)

-- ---- and back

no_above : (e f : Item) → Above f e → Above e f → Swappable e f
no_above (item v gone) f h k = absurd k
no_above (item v (stays w n)) (item v' gone) h k = absurd k
no_above (item v (stays w n)) (item v' (stays w' n')) h k = absurd (omega arith)

pub orderly_rising : (t : List Item) → Rising t → Orderly t
orderly_rising [] h = tt
orderly_rising (e ∷ t) h = (each_imp (λ f. Above f e) (Clash e) (no_above e) t h.0, orderly_rising t h.1)

-- what is gone stands above nothing, and nothing above it
pub gone_above : (e f : Item) → Gone e → Above e f → ⊥
gone_above (item v gone) f g k = k
gone_above (item v (stays w n)) f g k = g

pub above_gone : (e f : Item) → Gone f → Above e f → ⊥
above_gone (item v gone) f g k = k
above_gone (item v (stays w n)) (item v' gone) g k = k
above_gone (item v (stays w n)) (item v' (stays w' n')) g k = g

pub orderly_target : (t : List Item) → Numbered 1 t → Orderly t
orderly_target t n = orderly_rising t (rising 1 t n)

-- ---- looking back and looking ahead

orderly_back : (b s : List Item) → Ordered b s → Each (λ y. Each (Clash y) s) b × Orderly s
orderly_back b [] h = (each_all (λ y. Unit {0}) (λ y. tt) b, tt)
orderly_back b (x ∷ a) h =
    let r = orderly_back (x ∷ b) a h.1 in
    (all_zip (λ y. Clash y x) (λ y. Each (Clash y) a) b h.0 r.0.1, (r.0.0, r.1))

pub orderly_of : (s : List Item) → Ordered [] s → Orderly s
orderly_of s h = (orderly_back [] s h).1

pub ordered_of : (b s : List Item) → Each (λ y. Each (Clash y) s) b → Orderly s → Ordered b s
ordered_of b [] h o = tt
ordered_of b (x ∷ a) h o =
    let r = each_imp (λ y. Clash y x × Each (Clash y) a) (λ y. Each (Clash y) a) (λ y k. k.1) b h in
    (each_imp (λ y. Clash y x × Each (Clash y) a) (λ y. Clash y x) (λ y k. k.0) b h, ordered_of (x ∷ b) a (o.0, r) o.1)
