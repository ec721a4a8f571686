-- What the rules see of an event, with its location, its value and whether it is used. Assumes nothing.
use mathlib.Core.Path.{◌≡◌}
use mathlib.Core.Bool.{Bool, true, false, cond}
use mathlib.Core.List.{List}
use Prim.Native.Nat.{ℕ}
use lib.Dec.{eqb}
use Rattle.kinds.specs.Kind.{used, row, plain}
use Rattle.memory.specs.Listed.{is_register}
use Rattle.event.specs.declared.Event.{Event}
use Rattle.laws.proofs.Cases.{by_cond}
use Rattle.rules.specs.View.{View, wall, load, store, view, view_in}

pub data Sees : View → ℕ → ℕ → Bool → Type 0 where
  a_wall_lem : {p v : ℕ} {u : Bool} → Sees wall p v u
  a_load_lem : {p v : ℕ} {u : Bool} → Sees (load p v u) p v u
  a_store : {p v : ℕ} {u : Bool} → Sees (store p v) p v u

pub sees : (e : Event) → Sees (view e) e.place e.first (eqb e.order used)
sees e = go (plain e) (row e.kind).reads
  where
    go : (c d : Bool)
        → Sees (cond c (cond d (load e.place e.first (eqb e.order used)) (store e.place e.first)) wall) e.place e.first (eqb
        e.order used)
    go true true = a_load_lem
    go true false = a_store
    go false d = a_wall_lem

-- under a list; and at an index that is its location
pub sees_in : (regs : List Bool) (e : Event) → Sees (view_in regs e) e.place e.first (eqb e.order used)
sees_in regs e = by_cond (λ v. Sees v e.place e.first (eqb e.order used)) (is_register regs e) a_wall_lem (sees e)

pub sees_at : (regs : List Bool) (e : Event) {i : ℕ} → i ≡ e.place → Sees (view_in regs e) i e.first (eqb e.order used)
sees_at regs e h = rw h (sees_in regs e)
