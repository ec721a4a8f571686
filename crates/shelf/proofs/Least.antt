-- Document 02, C-19: no run leads to fewer events than the shortened trace has. Removals and swaps do not make fewer events stay, what stays is no more than
-- what there is, and the second phase removes nothing. Assumes nothing.
use mathlib.Core.Path.{◌≡◌, refl, sym, ◌∙◌, ap}
use mathlib.Core.Logic.{inl, inr}
use mathlib.Core.Bool.{Bool, true, false, cond}
use mathlib.Core.Option.{some}
use mathlib.Core.List.{List, [], ◌∷◌, map}
use Prim.Native.Nat.{ℕ, suc, ◌≤◌}
use native.Mathlib.Omega.{arith}
use lib.Dec.{T}
use lib.ListN.{length}
use Rattle.event.specs.Limit.{places}
use Rattle.memory.specs.Memory.{stepped}
use Rattle.event.specs.declared.Event.{Event}
use Rattle.memory.specs.declared.Memory.{Memory}
use Rattle.rules.specs.View.{View, wall, load, store}
use Rattle.rules.specs.Moves.{rules, Run, Move, Moves, one, two, remove, insert, swap, next, done, step, Holds, Removable}
use Rattle.rules.specs.Run.{Traced, changes, event_of, number, viewed, Inserted}
use Rattle.rules.specs.Demand.{right_in}
use Rattle.rules.proofs.Effect.{Truthful, cell, step_length}
use Rattle.rules.proofs.Latest.{Effect, effect}
use Rattle.rules.proofs.Values.{first_right, rest_right}
use Rattle.rules.proofs.Along.{keeping, moved}
use Rattle.rules.proofs.Outcome.{events_number}
use Rattle.shelf.specs.Short.{stays, short}
use Rattle.shelf.proofs.First.{nearest, by_eq, near_view}
use Rattle.shelf.proofs.Tally.{bit, tally, tallied}
use Rattle.shelf.proofs.Lower.{Coherent₁, Coherent, Outcome, out_load, out_over, out_held, swapped, under, settled}

-- ---- what the latest values say

abbrev Knows : List View → (ℕ → ℕ) → Type 0
Knows b c = (p w : ℕ) → Holds w (nearest p b) → c p ≡ w

knows_next : (b : List View) (v : View) (c d : ℕ → ℕ) → Effect c v d → Knows b c → Knows (v ∷ b) d
knows_next b wall c d e k p w h = absurd h
knows_next b (load q v u) c d e k p w h =
    by_eq (λ y. Holds w (cond y (some (load q v u)) (nearest p b)) → d p ≡ w) p q
    (λ i h. e.1 p ∙ ap c i ∙ e.0 ∙ h) (λ _ h. e.1 p ∙ k p w h) h
knows_next b (store q v) c d e k p w h =
    by_eq (λ y. d p ≡ cond y v (c p) → Holds w (cond y (some (store q v)) (nearest p b)) → d p ≡ w) p q
    (λ _ j h. j ∙ h) (λ _ j h. j ∙ k p w h) (e p) h

coherent₁ : (b : List View) (v : View) (c d : ℕ → ℕ) → Effect c v d → Knows b c → Coherent₁ b v
coherent₁ b wall c d e k = tt
coherent₁ b (load p v u) c d e k = λ w h. sym (k p w h) ∙ e.0
coherent₁ b (store p v) c d e k = tt

module _ (regs : List Bool) (look : Event → View) (truthful : Truthful regs look) where
  coherent : (b : List View) (m : Memory) (s : List Event) → length m.cells ≡ places → Knows b (cell m) → T (right_in regs m s) → Coherent b (map look s)
  coherent b m [] c k h = tt
  coherent b m (e ∷ s) c k h =
      let f = effect truthful m e c (first_right regs m e s h) in
      let n = (stepped m e).memory in (
        coherent₁ b (look e) (cell m) (cell n) f k,
        coherent (look e ∷ b) n s (step_length m e ∙ c) (knows_next b (look e) (cell m) (cell n) f k) (rest_right regs m e s h),
      )

-- ---- the first phase

module _ {E : Type 0} (view : E → View) (new : E → Type 0) where
  removed : (b : List E) (v : View) (a : List E) → Removable view b v a → Coherent (map view b) (v ∷ map view a) → Outcome (map view b) (v ∷ map view a) (map view a)
  removed b wall a r g = absurd r
  removed b (load p v true) a r g = out_load p v true (map view b) (map view a) g (λ _. rw (← near_view view p b) r)
  removed b (load p v false) a r g = out_load p v false (map view b) (map view a) g (λ t. absurd t)
  removed b (store p v) a (inl r) g = out_held p v (map view b) (map view a) (rw (← near_view view p b) r)
  removed b (store p v) a (inr r) g = out_over p v (map view b) (map view a) (rw (← near_view view p a) r)

  outcome : {b s t : List E} → Move (rules view new) one b s t → Coherent (map view b) (map view s) → Outcome (map view b) (map view s) (map view t)
  outcome (remove {b = b} {a = a} {e = e} r) g = removed b (view e) a r g
  outcome (swap {b = b} {a = a} {e = e} {f = f} d) g = swapped (view e) (view f) (map view b) (map view a) d
  outcome (next {b = b} {s = s} {t = t} {e = e} m) g = under (map view b) (view e) (map view s) (map view t) g.0 (outcome m g.1)

  pub not_fewer : {s t : List E} → Move (rules view new) one [] s t → Coherent [] (map view s) → tally [] (map view s) ≤ tally [] (map view t)
  not_fewer m g = settled (outcome m g)

  -- ---- what stays is there

  pub at_most : (b : List View) (s : List E) → tally b (map view s) ≤ length s
  at_most b [] = omega arith
  at_most b (e ∷ s) = let i = at_most (view e ∷ b) s in let j = bit_le (stays b (view e) (map view s)) in omega arith
    where
      bit_le : (c : Bool) → bit c ≤ 1
      bit_le true = omega arith
      bit_le false = omega arith

  -- ---- the second phase

  grows : {b s t : List E} → Move (rules view new) two b s t → length s ≤ length t
  grows (insert i) = omega arith
  grows (swap d) = omega arith
  grows (next m) = let i = grows m in omega arith

  pub all_grow : {s t : List E} → Moves (rules view new) two [] s t → length s ≤ length t
  all_grow done = omega arith
  all_grow (step m r) = let i = grows m in let j = all_grow r in omega arith

-- ---- a run

map_map : (look : Event → View) (s : List Traced) → map look (map event_of s) ≡ map (viewed look) s
map_map look [] = refl
map_map look (x ∷ s) = ap (λ (r : List View). viewed look x ∷ r) (map_map look s)

module _ (regs : List Bool) (look : Event → View) (truthful : Truthful regs look) (m : Memory) (c : length m.cells ≡ places) where
  first_phase : {s t : List Traced} → Moves (changes look) one [] s t → T (right_in regs m (map event_of s))
      → tally [] (map (viewed look) s) ≤ tally [] (map (viewed look) t)
  first_phase done h = omega arith
  first_phase (step {s = s} q r) h =
      let g : Coherent [] (map (viewed look) s) = rw (← map_map look s) (coherent regs look truthful [] m (map event_of s) c (λ p w k. absurd k) h) in
      let i = not_fewer (viewed look) Inserted q g in
      let k = keeping look truthful m c in
      let j = first_phase r (moved k q m k.start h).0 in
      omega arith

  -- from any trace of a run
  pub least_of : (s u : List Traced) → T (right_in regs m (map event_of s)) → Run (changes look) s u → length (short (viewed look) s) ≤ length u
  least_of s u h r =
      let i = first_phase r.1 h in
      let j = at_most (viewed look) Inserted [] r.0 in
      let k = all_grow (viewed look) Inserted r.2 in
      let l = tallied (viewed look) [] s in
      omega arith

  views_number : (i : ℕ) (s : List Event) → map (viewed look) (number i s) ≡ map look s
  views_number i [] = refl
  views_number i (e ∷ s) = ap (λ (r : List View). look e ∷ r) (views_number (suc i) s)

  pub least : (s : List Event) (u : List Traced) → T (right_in regs m s) → Run (changes look) (number 1 s) u → length (short look s) ≤ length u
  least s u h r =
      let i = least_of (number 1 s) u (rw (events_number 1 s) h) r in
      let j = tallied (viewed look) [] (number 1 s) in
      let k = tallied look [] s in
      let l = ap (tally []) (views_number 1 s) in
      omega arith
