-- What an event does to the memory, by what the rules see of it: a load leaves the memory and is right if it has the cell's value, a store sets
-- its cell and is right, and every event leaves the number of cells. `Truthful` is all that the theory of values asks of a view. Assumes nothing.
use mathlib.Core.Path.{◌≡◌, refl}
use mathlib.Core.Bool.{Bool, true, false, cond}
use mathlib.Core.List.{List}
use Prim.Native.Nat.{ℕ, ◌<◌}
use lib.ListN.{length-set, length, get_or, set}
use lib.Seq.{set-get_or}
use lib.Dec.{T, eqb}
use Rattle.event.specs.Limit.{places}
use Rattle.kinds.specs.Kind.{used, row, lawful, plain}
use Rattle.memory.specs.Listed.{is_register, stepped_in}
use Rattle.memory.specs.Memory.{after, latest, left, stepped}
use Rattle.kinds.proofs.Lawful.{place_below}
use Rattle.kinds.proofs.Table.{plain_load, plain_store}
use Rattle.event.specs.declared.Event.{Event}
use Rattle.memory.specs.declared.Memory.{Memory}
use Rattle.memory.specs.declared.Stepped.{Stepped}
use Rattle.laws.proofs.Cases.{by_cond}
use Rattle.rules.specs.View.{view, view_in, View, load, store, wall}
use Rattle.rules.proofs.Truth.{T_true}

abbrev pub cell : Memory → ℕ → ℕ
cell m l = get_or m.cells l 0

abbrev pub put : Memory → ℕ → ℕ → Memory
put m p v = record { cells = set m.cells p v }

-- what an event's view says of its kind
data Kinds (e : Event) : View → Type 0 where
  is_load_lem : plain e ≡ true → (row e.kind).reads ≡ true → Kinds e (load e.place e.first (eqb e.order used))
  is_store : plain e ≡ true → (row e.kind).reads ≡ false → Kinds e (store e.place e.first)
  is_wall_lem : Kinds e wall

kinds : (e : Event) → Kinds e (view e)
kinds e = go (plain e) (row e.kind).reads refl refl
  where
    go : (c d : Bool) → plain e ≡ c → (row e.kind).reads ≡ d
        → Kinds e (cond c (cond d (load e.place e.first (eqb e.order used)) (store e.place e.first)) wall)
    go true true p r = is_load_lem p r
    go true false p r = is_store p r
    go false d p r = is_wall_lem

-- what is right is lawful
latest_lawful : (m : Memory) (e : Event) → T (stepped m e).right → T (lawful e)
unfolding stepped
latest_lawful m e h = go (lawful e) (record { memory = record { cells = after m.cells e }; right = latest m.cells e }) h
  where
    go : (c : Bool) (r : Stepped) → T (cond {A = Stepped} c r (record { memory = m; right = false })).right → T c
    go true r h = tt
    go false r h = h

pub right_lawful : (regs : List Bool) (m : Memory) (e : Event) → T (stepped_in regs m e).right → T (lawful e)
right_lawful regs m e = by_cond (λ c. T c → T (lawful e)) (is_register regs e) (λ h. h) (latest_lawful m e)

-- what a plain event does
abbrev pub act : View → Memory → Stepped
act wall m = record { memory = m; right = true }
act (load p v u) m = record { memory = m; right = eqb v (cell m p) }
act (store p v) m = record { memory = put m p v; right = true }

abbrev pub Plain : View → Type 0
Plain wall = ⊥
Plain (load p v u) = Unit {0}
Plain (store p v) = Unit {0}

acts_of : (m : Memory) (e : Event) {v : View} → Kinds e v → T (lawful e) → Plain v → stepped m e ≡ act v m
unfolding stepped after latest
acts_of m e (is_load_lem k r) l p = rw (T_true (lawful e) l, r, plain_load e.kind k r, set-get_or m.cells e.place 0)
acts_of m e (is_store k r) l p = rw (T_true (lawful e) l, r, plain_store e.kind k r)
acts_of m e is_wall_lem l p = absurd p

-- a plain event's location is one of the 256
abbrev pub Bound : View → Type 0
Bound wall = Unit {0}
Bound (load p v u) = p < places
Bound (store p v) = p < places

bounds_of : (e : Event) {v : View} → Kinds e v → T (lawful e) → Bound v
bounds_of e (is_load_lem k r) l = place_below e (T_true (lawful e) l)
bounds_of e (is_store k r) l = place_below e (T_true (lawful e) l)
bounds_of e is_wall_lem l = tt

-- what is asked of a way to see events under a list: a plain event acts by what is seen of it, within the memory
pub record Truthful (regs : List Bool) (look : Event → View) : Type 0 where
  pub acts : (m : Memory) (e : Event) → T (lawful e) → Plain (look e) → stepped_in regs m e ≡ act (look e) m
  pub bounds : (e : Event) → T (lawful e) → Bound (look e)

-- what is plain under the list is no register, and acts as ever
pub truthful : (regs : List Bool) → Truthful regs (view_in regs)
truthful regs = record {
  acts = λ m e l. plainly m e l (is_register regs e);
  bounds = λ e l. by_cond Bound (is_register regs e) tt (bounds_of e (kinds e) l);
}
  where
    plainly : (m : Memory) (e : Event) → T (lawful e) → (c : Bool) → Plain (cond c wall (view e))
        → ◌≡◌ {A = Stepped} (record { memory = (stepped m e).memory; right = cond c (lawful e) (stepped m e).right }) (act (cond c wall (view e)) m)
    plainly m e l true p = absurd p
    plainly m e l false p = acts_of m e (kinds e) l p

length_after : (l : List ℕ) (e : Event) → length (after l e) ≡ length l
unfolding after
length_after l e = length-set l e.place (left (get_or l e.place 0) e)

pub step_length : (m : Memory) (e : Event) → length (stepped m e).memory.cells ≡ length m.cells
unfolding stepped
step_length m e = by_cond (λ (r : Stepped). length r.memory.cells ≡ length m.cells) (lawful e) (length_after m.cells e) refl
