-- Document 01, "Rules of change": what the rules see as a wall is kept, never inserted or swapped, and near accesses don't span it. Assumes nothing.
use mathlib.Core.Path.{◌≡◌, refl}
use mathlib.Core.Bool.{true, false, cond}
use mathlib.Core.Option.{none}
use mathlib.Core.List.{List, ◌∷◌}
use Prim.Native.Nat.{ℕ}
use lib.Dec.{ltb}
use Rattle.laws.specs.Has.{has}
use Rattle.kinds.specs.Kind.{is_load_kind}
use Rattle.event.specs.declared.Event.{Event}
use Rattle.rules.specs.View.{View, wall, load, store, apart}
use Rattle.rules.specs.Moves.{near}
use Rattle.rules.specs.Fault.{Item, item, gone, stays, crossed}
use Rattle.rules.specs.Verdict.{source_fault, target_fault, target_item}

wall_apart : (v : View) → apart v wall ≡ false
wall_apart wall = refl
wall_apart (load p v u) = refl
wall_apart (store p v) = refl

module _ (view : Event → View) (e : Event) (seen : view e ≡ wall) where
  -- gone, it is 11
  pub never_gone : (t : List Event) (b a : List Item) → source_fault t b e (item (view e) gone) a ≡ 11
  never_gone t b a = rw seen

  -- without a source, it is 16 or 15, whatever stands before it
  pub never_inserted : (ns : List ℕ) (k : ℕ) (b : List Item) → has k ns ≡ false
      → target_fault e.kind b (target_item view ns k e) ≡ cond (is_load_kind e.kind) 16 15
  never_inserted ns k b h = rw (seen, h)

  -- it is swapped with nothing; kept against the order of an earlier or a later event, that is 12
  pub never_swapped : (v : View) → (apart (view e) v ≡ false) × (apart v (view e) ≡ false)
  never_swapped v = (rw seen, rw (seen, wall_apart v))

  module _ (v : View) (b : List Item) (i k : ℕ) (less : ltb i k ≡ true) where
    pub earlier_crossed : crossed (item v (stays false k) ∷ b) (item (view e) (stays false i)) ≡ true
    earlier_crossed = rw (less, (never_swapped v).1)

    pub later_crossed : crossed (item (view e) (stays false k) ∷ b) (item v (stays false i)) ≡ true
    later_crossed = rw (less, (never_swapped v).0)

  -- nothing is near across it
  pub never_spanned : (l : ℕ) (b : List Event) → near view l (e ∷ b) ≡ none
  never_spanned l b = rw seen
