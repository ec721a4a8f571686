-- The fault of an event from what the arrays hold at its location: each test of a fault, with its fold in place. A gone event crosses nothing, and a
-- kept one is not removed. Assumes nothing.
use mathlib.Core.Path.{◌≡◌, refl}
use mathlib.Core.Bool.{Bool, false}
use mathlib.Core.Option.{Option}
use mathlib.Core.List.{List}
use Prim.Native.Nat.{ℕ, zero, suc}
use Rattle.event.specs.declared.Event.{Event}
use Rattle.rules.specs.Fault.{Item, closing, fate, group, is_none, item, near, witness}
use Rattle.rules.specs.View.{View, load, store, is_wall}
use Rattle.rules.specs.Verdict.{keep_fault, removal_fault, source_fault}
use Rattle.fates.specs.Pass.{source_fault_by, keep_fault_by, removal_fault_by}
use Rattle.fates.specs.declared.source.Cell.{Cell}
use Rattle.fates.specs.declared.source.Tops.{Tops}
use Rattle.fates.proofs.Passes.{any, crossed_gone, crossed_plain, crossed_wall, is_at, plain_load, plain_store, top_by}
use Rattle.sight.proofs.Sight.{Sees, a_load_lem, a_store, a_wall_lem}

-- ---- a source event

-- the arrays hold, at the location p, what the tests ask of the events before and after
pub record Right (b a : List Item) (p : ℕ) (c : Cell) (o : Option ℕ) (s : Tops) : Type 0 where
  pub fresh_right : c.fresh ≡ is_none (near p b)
  pub closing_right : c.closing ≡ closing (group p a)
  pub witness_right : o ≡ witness (group p b)
  pub all_right : s.all ≡ top_by any b
  pub walls_right : s.walls ≡ top_by is_wall b
  pub here_right : s.here ≡ top_by (is_at p) b

module _ (t : List Event) (e : Event) (b a : List Item) (c : Cell) (o : Option ℕ) (s : Tops) where
  -- 10 to 12
  keep_at : {v : View} {p x : ℕ} {u : Bool} (n : ℕ) → Sees v p x u → Right b a p c o s → keep_fault t b e (item v (fate n)) ≡ keep_fault_by t e v n s
  keep_at zero a_wall_lem r = refl
  keep_at zero (a_load_lem {p} {v} {u}) r = rw (crossed_gone b (load p v u))
  keep_at zero (a_store {p} {v}) r = rw (crossed_gone b (store p v))
  keep_at (suc n) a_wall_lem r = rw (crossed_wall b false (suc n), ← r.all_right)
  keep_at (suc n) (a_load_lem {p} {v} {u}) r = rw (crossed_plain (plain_load {p = p} {x = v} {u = u}) b false (suc n), ← r.walls_right, ← r.here_right)
  keep_at (suc n) (a_store {p} {v}) r = rw (crossed_plain (plain_store {p = p} {x = v}) b false (suc n), ← r.walls_right, ← r.here_right)

  -- 13, 14
  removal_at : {v : View} {p x : ℕ} {u : Bool} (n : ℕ) → Sees v p x u → Right b a p c o s → removal_fault b (item v (fate n)) a ≡ removal_fault_by v n c o
  removal_at zero a_wall_lem r = refl
  removal_at zero a_load_lem r = rw (← r.fresh_right)
  removal_at zero a_store r = rw (← r.closing_right, ← r.witness_right)
  removal_at (suc n) s r = refl

  pub fault_at_lem : {v : View} {p x : ℕ} {u : Bool} (n : ℕ) → Sees v p x u → Right b a p c o s
      → source_fault t b e (item v (fate n)) a ≡ source_fault_by t e v n c o s
  fault_at_lem n s r = rw (keep_at n s r, removal_at n s r)
