-- What a move can take away: one gone event, one pair against the target's order, or one insertion that is still to come. Assumes nothing.
use mathlib.Core.Path.{◌≡◌, refl}
use mathlib.Core.Bool.{Bool, true, false, not}
use mathlib.Core.List.{List}
use Prim.Native.Nat.{ℕ, suc, ◌+◌, ◌≤◌}
use native.Mathlib.Omega.{arith}
use Rattle.event.specs.declared.Event.{Event}
use Rattle.rules.specs.View.{View}
use Rattle.rules.specs.Moves.{Phase, one, two, Move, Moves, remove, insert, swap, next, done, step}
use Rattle.rules.specs.Run.{old, new, Traced, traced, tag_of, Inserted, changes}
use Rattle.course.specs.Step.{leaves, overtakes}
use Rattle.course.specs.Cost.{bit, count}
use Rattle.course.proofs.Counts.{below, below_gone, bit_le, fresh, gone_below, inverted, is_new, lost, stays, total}

module _ (view : Event → View) where
  abbrev Shift : Phase → List Traced → List Traced → List Traced → Type 0
  Shift φ b u v = Move (changes view) φ b u v

  abbrev Shifts : Phase → List Traced → List Traced → List Traced → Type 0
  Shifts φ b u v = Moves (changes view) φ b u v

  -- the first phase adds nothing, the second takes nothing away
  pub less_one : (f : Traced → ℕ) {b u v : List Traced} → Shift one b u v → total f v ≤ total f u
  less_one f (remove r) = omega arith
  less_one f (swap d) = omega arith
  less_one f (next m) = let i = less_one f m in omega arith

  pub less_ones : (f : Traced → ℕ) {b u v : List Traced} → Shifts one b u v → total f v ≤ total f u
  less_ones f done = omega arith
  less_ones f (step m r) = let i = less_one f m in let j = less_ones f r in omega arith

  more_two : (f : Traced → ℕ) {b u v : List Traced} → Shift two b u v → total f u ≤ total f v
  more_two f (insert w) = omega arith
  more_two f (swap d) = omega arith
  more_two f (next m) = let i = more_two f m in omega arith

  module _ (ns : List ℕ) where
    -- ---- the first phase, if it removes only what is gone

    stays_not : (c : Bool) → bit (not c) ≤ 0 → c ≡ true
    stays_not true h = refl
    stays_not false h = absurd (omega arith)

    keeps_below : (x : Traced) {b u v : List Traced} → Shift one b u v → total (stays ns) u ≤ total (stays ns) v
        → total (below ns x) u ≤ total (below ns x) v
    keeps_below x (remove {e = e} r) h = let i = below_gone ns x e (stays_not (leaves ns (tag_of e)) (omega arith)) in omega arith
    keeps_below x (swap d) h = omega arith
    keeps_below x (next m) h = let i = keeps_below x m (omega arith) in omega arith

    weigh_one : {b u v : List Traced} → Shift one b u v → total (stays ns) u ≤ total (stays ns) v
        → total (lost ns) u + inverted ns u ≤ suc (total (lost ns) v + inverted ns v)
    weigh_one (remove {a = a} {e = e} r) h =
        let g = stays_not (leaves ns (tag_of e)) (omega arith) in
        let i = bit_le (leaves ns (tag_of e)) in
        let j = gone_below ns e g a in
        omega arith
    weigh_one (swap {e = e} {f = f} d) h = let i = bit_le (overtakes ns (tag_of e) (tag_of f)) in omega arith
    weigh_one (next {e = e} m) h = let i = weigh_one m (omega arith) in let j = keeps_below e m (omega arith) in omega arith

    pub weigh_ones : {b u v : List Traced} (m : Shifts one b u v) → total (stays ns) u ≤ total (stays ns) v
        → total (lost ns) u + inverted ns u ≤ count m + (total (lost ns) v + inverted ns v)
    weigh_ones done h = omega arith
    weigh_ones (step m r) h =
        let i = less_one (stays ns) m in
        let j = less_ones (stays ns) r in
        let k = weigh_one m (omega arith) in
        let l = weigh_ones r (omega arith) in
        omega arith

    -- ---- the second phase: what it adds is new

    one_more : (x : Traced) → Inserted x → stays ns x ≡ fresh x
    one_more (traced (old i) e) w = absurd w
    one_more (traced (new k) e) w = refl

    adds_two : {b u v : List Traced} → Shift two b u v → total (stays ns) u + total fresh v ≡ total (stays ns) v + total fresh u
    adds_two (insert {e = e} w) = let i = one_more e w.0 in omega arith
    adds_two (swap d) = omega arith
    adds_two (next m) = let i = adds_two m in omega arith

    pub adds_twos : {b u v : List Traced} → Shifts two b u v → total (stays ns) u + total fresh v ≡ total (stays ns) v + total fresh u
    adds_twos done = refl
    adds_twos (step m r) = let i = adds_two m in let j = adds_twos r in omega arith

    weigh_two : {b u v : List Traced} → Shift two b u v
        → total (lost ns) u + inverted ns u + total fresh v ≤ suc (total (lost ns) v + inverted ns v + total fresh u)
    weigh_two (insert {e = e} w) = let i = bit_le (is_new (tag_of e)) in omega arith
    weigh_two (swap {e = e} {f = f} d) = let i = bit_le (overtakes ns (tag_of e) (tag_of f)) in omega arith
    weigh_two (next {e = e} m) = let i = weigh_two m in let j = more_two (below ns e) m in omega arith

    pub weigh_twos : {b u v : List Traced} (m : Shifts two b u v)
        → total (lost ns) u + inverted ns u + total fresh v ≤ count m + (total (lost ns) v + inverted ns v + total fresh u)
    weigh_twos done = omega arith
    weigh_twos (step m r) = let i = weigh_two m in let j = weigh_twos r in omega arith
