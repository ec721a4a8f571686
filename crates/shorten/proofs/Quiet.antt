-- Answers 5 and 6 are not given of what stays: what stays clashes with no more than the events before it do, and has the latest values. Assumes nothing.
use Prim.Native.Nat.{ℕ, ◌+◌}
use mathlib.Core.Path.{◌≡◌, refl, sym}
use mathlib.Core.Bool.{Bool, true, false, ◌&&◌, ◌||◌, false≢true}
use mathlib.Core.List.{List, [], ◌∷◌}
use lib.Dec.{T, eqb}
use Rattle.event.specs.Answer.{done}
use Rattle.event.specs.declared.Event.{Event}
use Rattle.kinds.specs.Kind.{plain, atomic}
use Rattle.memory.specs.Listed.{uses_atomically, stepped_in}
use Rattle.memory.specs.Memory.{stepped}
use Rattle.memory.specs.declared.Memory.{Memory}
use Rattle.uses.specs.Use.{uses, clashes_in}
use Rattle.rules.specs.Demand.{right_in}
use Rattle.rules.proofs.Truth.{and_left, and_right, T_true}
use Rattle.trace.specs.Fault.{event_fault_in}
use Rattle.trace.proofs.Judged.{fault_parts}
use Rattle.shelf.specs.Short.{pick}

-- no event clashes
abbrev pub Quiet : List Bool → List Event → List Event → Type 0
Quiet regs b [] = Unit {0}
Quiet regs b (e ∷ es) = (clashes_in regs b e ≡ false) × Quiet regs (e ∷ b) es

module _ (regs : List Bool) (side : ℕ) where
  -- with neither 5 nor 6 none does, and each is right
  pub quiet_of : (k : ℕ) (m : Memory) (b es : List Event) → (event_fault_in regs side k m b es).number ≡ 0 → Quiet regs b es × T (right_in regs m es)
  quiet_of k m b [] h = (tt, tt)
  quiet_of k m b (e ∷ es) h =
      let f = fault_parts regs side k m b e es h in
      let r = quiet_of (k + 1) (stepped m e).memory (e ∷ b) es f.1 in
      ((f.0.0, r.0), rw f.0.1 r.1)

  -- and the other way
  pub none_of : (k : ℕ) (m : Memory) (b es : List Event) → Quiet regs b es → T (right_in regs m es) → event_fault_in regs side k m b es ≡ done
  unfolding event_fault_in
  none_of k m b [] q h = refl
  none_of k m b (e ∷ es) q h =
      let a = T_true (stepped_in regs m e).right (and_left (stepped_in regs m e).right (right_in regs (stepped m e).memory es) h) in
      rw (q.0, a) (none_of (k + 1) (stepped m e).memory (e ∷ b) es q.1 (and_right (stepped_in regs m e).right (right_in regs (stepped m e).memory es) h))

-- ---- fewer events before

abbrev Fewer : List Event → List Event → Type 0
Fewer c b = (class : Event → Bool) (l : ℕ) → uses class l b ≡ false → uses class l c ≡ false

or_both : (x y : Bool) → (x || y) ≡ false → (x ≡ false) × (y ≡ false)
or_both true y h = absurd (false≢true (sym h))
or_both false y h = (refl, h)

fewer_same : (c b : List Event) (e : Event) → Fewer c b → Fewer (e ∷ c) (e ∷ b)
unfolding uses
fewer_same c b e f class l h = let o = or_both (class e && eqb e.place l) (uses class l b) h in rw o.0 (f class l o.1)

fewer_less : (c b : List Event) (e : Event) → Fewer c b → Fewer c (e ∷ b)
unfolding uses
fewer_less c b e f class l h = f class l (or_both (class e && eqb e.place l) (uses class l b) h).1

clash_fewer : (regs : List Bool) (c b : List Event) (e : Event) → Fewer c b → clashes_in regs b e ≡ false → clashes_in regs c e ≡ false
clash_fewer regs c b e f h =
    go (uses_atomically regs e) (plain e) (atomic e) (uses atomic e.place b) (uses plain e.place b) (uses atomic e.place c) (uses plain e.place c)
    (f atomic e.place) (f plain e.place) h
  where
    half : (p x y : Bool) → (x ≡ false → y ≡ false) → (p && x) ≡ false → (p && y) ≡ false
    half true x y f h = f h
    half false x y f h = refl

    go : (a p q x y z w : Bool) → (x ≡ false → z ≡ false) → (y ≡ false → w ≡ false) → (a || ((p && x) || (q && y))) ≡ false → (a || ((p && z) || (q && w))) ≡ false
    go true p q x y z w f g h = absurd (false≢true (sym h))
    go false p q x y z w f g h = let o = or_both (p && x) (q && y) h in rw (half p x z f o.0) (half q y w g o.1)

pub pick_quiet : (regs : List Bool) (cs : List Bool) (c b es : List Event) → Fewer c b → Quiet regs b es → Quiet regs c (pick cs es)
pick_quiet regs [] c b es f q = tt
pick_quiet regs (k ∷ cs) c b [] f q = tt
pick_quiet regs (true ∷ cs) c b (e ∷ es) f q = (clash_fewer regs c b e f q.0, pick_quiet regs cs (e ∷ c) (e ∷ b) es (fewer_same c b e f) q.1)
pick_quiet regs (false ∷ cs) c b (e ∷ es) f q = pick_quiet regs cs c (e ∷ b) es (fewer_less c b e f) q.1

pub none_fewer : Fewer [] []
none_fewer class l h = h
