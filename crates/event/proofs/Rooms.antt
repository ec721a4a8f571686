-- Laws of events in a room: six stores in a row, the events' words, a front of a room with one event more. Assumes nothing.
use Prim.Native.Nat.{ℕ, suc, ◌+◌, ◌*◌, ◌/◌, ◌≤◌, ◌<◌}
use mathlib.Core.Path.{◌≡◌, refl, sym, ◌∙◌, ap, ap₂, subst}
use mathlib.Core.List.{List, [], ◌∷◌, ◌++◌}
use native.Mathlib.Omega.{arith}
use borrow.Author.Tests.{lt-ltb}
use lib.ListN.{length, get_or, set, take, drop, length-append, length-drop}
use lib.Seq.{length-take-le, sets-eq, take_at, drop-drop, drop-append-add, get_or-append-add, get_or-append_seam, append_snoc}
use Rattle.laws.proofs.Cases.{cases, side}
use Rattle.laws.proofs.Lists.{Each}
use Rattle.event.specs.declared.Event.{Event}
use Rattle.event.specs.Room.{words, flat, event_from, event_at, onward, put_at}

pub six_stores : (l : List ℕ) (i a b c d e f : ℕ) → i + 6 ≤ length l
    → set (set (set (set (set (set l i a) (i + 1) b) (i + 2) c) (i + 3) d) (i + 4) e) (i + 5) f ≡ take i l ++ (a ∷ b ∷ c ∷ d ∷ e ∷ f ∷ []) ++ drop (i + 6) l
six_stores l i a b c d e f h =
    let p₁ : i + 1 ≡ suc i = omega arith in
    let p₂ : i + 2 ≡ suc (suc i) = omega arith in
    let p₃ : i + 3 ≡ suc (suc (suc i)) = omega arith in
    let p₄ : i + 4 ≡ suc (suc (suc (suc i))) = omega arith in
    let p₅ : i + 5 ≡ suc (suc (suc (suc (suc i)))) = omega arith in
    rw (p₁, p₂, p₃, p₄, p₅) (sets-eq (a ∷ b ∷ c ∷ d ∷ e ∷ f ∷ []) l i h)

pub flat_append : (x y : List Event) → flat (x ++ y) ≡ flat x ++ flat y
unfolding flat
flat_append [] y = refl
flat_append (e ∷ x) y = rw (flat_append x y)

pub flat_length : (es : List Event) → length (flat es) ≡ length es * 6
unfolding flat
flat_length [] = refl
flat_length (e ∷ es) = omega (arith, flat_length es)

-- behind a front F of length k, w put
drop_seam : (F r : List ℕ) (k m : ℕ) → length F ≡ k → drop (k + m) (F ++ drop k r) ≡ drop (k + m) r
drop_seam F r k m h = rw (← h) (drop-append-add F (drop (length F) r) m ∙ drop-drop m (length F) r)

pub seam : (F r w : List ℕ) (k m : ℕ) → length F ≡ k → take k (F ++ drop k r) ++ w ++ drop (k + m) (F ++ drop k r) ≡ F ++ w ++ drop (k + m) r
seam F r w k m h = rw (take_at F (drop k r) k h, drop_seam F r k m h)

-- a room whose front holds the events es, with one event more
pub put_next : (es : List Event) (e : Event) (r : List ℕ) → (length es + 1) * 6 ≤ length r
    → put_at (flat es ++ drop (length es * 6) r) (length es) e ≡ flat (es ++ (e ∷ [])) ++ drop ((length es + 1) * 6) r
unfolding put_at flat
put_next es e r h =
    let n : ℕ = length es in
    let k : (n + 1) * 6 ≡ n * 6 + 6 = omega arith in
    let w : length (flat es ++ drop (n * 6) r) ≡ length r =
    length-append (flat es) (drop (n * 6) r) ∙ omega (arith, flat_length es, length-drop (n * 6) r) in
    let fits : n < length (flat es ++ drop (n * 6) r) / 6 = omega arith in
    rw (lt-ltb n (length (flat es ++ drop (n * 6) r) / 6) fits, k, flat_append es (e ∷ []))
    (seam (flat es) r (words e) (n * 6) 6 (flat_length es))

pub length_put : (l : List ℕ) (i : ℕ) (e : Event) → i < length l / 6 → length (put_at l i e) ≡ length l
unfolding put_at
length_put l i e h =
    let k : i * 6 ≤ length l = omega arith in
    rw (lt-ltb i (length l / 6) h, length-append, length-append, length-take-le (i * 6) l k) (omega (arith, length-drop (i * 6 + 6) l))

-- the event whose words stand behind a front
word_at : (F ws : List ℕ) (at k : ℕ) → at ≡ length F → get_or (F ++ ws) (at + k) 0 ≡ get_or ws k 0
word_at F ws at k h = rw h (get_or-append-add F ws k 0)

from_front : (F : List ℕ) (e : Event) (r : List ℕ) (at : ℕ) → at ≡ length F → event_from (F ++ (words e ++ r)) at ≡ e
from_front F e r at h =
    let w : List ℕ = words e ++ r in
    let z : get_or (F ++ w) at 0 ≡ e.kind = rw h (get_or-append_seam F e.kind _ 0) in
    rw (z, word_at F w at 1 h, word_at F w at 2 h, word_at F w at 3 h, word_at F w at 4 h, word_at F w at 5 h)

at_front : (F : List ℕ) (e : Event) (r : List ℕ) (i : ℕ) → length F ≡ i * 6 → event_at (F ++ (words e ++ r)) i ≡ e
unfolding event_at
at_front F e r i h =
    let n : length (F ++ (words e ++ r)) ≡ i * 6 + (6 + length r) = length-append F (words e ++ r) ∙ omega (arith, h) in
    let k : i < length (F ++ (words e ++ r)) / 6 = omega (arith, n) in
    rw (lt-ltb i (length (F ++ (words e ++ r)) / 6) k) (from_front F e r (i * 6) (sym h))

at_flat : (x : List Event) (e : Event) (es : List Event) (i : ℕ) → length (flat x) ≡ i * 6 → event_at (flat x ++ flat (e ∷ es)) i ≡ e
unfolding flat
at_flat x e es i h = at_front (flat x) e (flat es) i h

-- a room that holds just the words of events holds these events
flat_onward : (x es : List Event) (i : ℕ) → i ≡ length x → onward (flat (x ++ es)) i (length es) ≡ es
unfolding onward flat
flat_onward x [] i h = refl
flat_onward x (e ∷ es) i h =
    let f : flat (x ++ e ∷ es) ≡ flat x ++ (words e ++ flat es) = flat_append x (e ∷ es) in
    let n : length (flat x) ≡ i * 6 = flat_length x ∙ rw h in
    let a : x ++ e ∷ es ≡ (x ++ (e ∷ [])) ++ es = sym (append_snoc x e es) in
    let k : i + 1 ≡ length (x ++ (e ∷ [])) = rw (length-append, h) in
    ap₂ ◌∷◌ (ap (λ (l : List ℕ). event_at l i) f ∙ at_front (flat x) e (flat es) i n)
    (ap (λ (y : List Event). onward (flat y) (i + 1) (length es)) a ∙ flat_onward (x ++ (e ∷ [])) es (i + 1) k)

pub onward_flat : (es : List Event) → onward (flat es) 0 (length es) ≡ es
onward_flat es = flat_onward [] es 0 refl

-- what holds of each of the events holds of each event of such a room
each_from : (P : Event → Type 0) (x es : List Event) → Each P es → (i : ℕ) → length x ≤ i → i < length x + length es → P (event_at (flat (x ++ es)) i)
each_from P x [] h i p q = absurd (omega arith)
each_from P x (e ∷ es) h i p q =
    let n : length (x ++ (e ∷ [])) ≡ length x + 1 = length-append x (e ∷ []) in
    let a : x ++ e ∷ es ≡ (x ++ (e ∷ [])) ++ es = sym (append_snoc x e es) in
    cases (side (length x) i)
    (λ k. rw a (each_from P (x ++ (e ∷ [])) es h.1 i (omega (arith, n)) (omega (arith, n))))
    (λ k. let j : length (flat x) ≡ i * 6 = flat_length x ∙ omega arith in rw (flat_append x (e ∷ es)) (subst P (sym (at_flat x e es i j)) h.0))

pub each_event : (P : Event → Type 0) (es : List Event) → Each P es → (i : ℕ) → i < length es → P (event_at (flat es) i)
each_event P es h i k = each_from P [] es h i (omega arith) (omega arith)
