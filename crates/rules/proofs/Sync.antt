-- Document 01, "Which order suits which kind is one fixed table": what the rules do not move across is what the table calls synchronising. A test over
-- the table: a kind that is not plain synchronises. Assumes nothing.
use Prim.Native.Nat.{ℕ}
use mathlib.Core.Bool.{Bool, true, false, not, cond, ◌&&◌, ◌||◌, false≢true, or-false, or-true}
use mathlib.Core.List.{List}
use mathlib.Core.Path.{◌≡◌, refl, sym, ◌∙◌}
use Rattle.kinds.specs.Kind.{row, takes, lawful, is_location}
use Rattle.memory.specs.Listed.{is_register}
use Rattle.event.specs.declared.Event.{Event}
use Rattle.kinds.specs.declared.Orders.{Orders}
use Rattle.kinds.specs.declared.Orders.TheVariants.{Bare, Marks, Reads, Writes, Updates, Fences, NoKind}
use Rattle.kinds.proofs.Lawful.{order_of_lem}
use Rattle.kinds.proofs.Table.{each_row}
use Rattle.rules.specs.View.{view, view_in, View, wall, is_wall}

-- a kind at all
abbrev is_kind : Orders → Bool
is_kind Bare = true
is_kind Marks = true
is_kind Reads = true
is_kind Writes = true
is_kind Updates = true
is_kind Fences = true
is_kind NoKind = false

a_kind : (os : Orders) (o : ℕ) → takes os o ≡ true → is_kind os ≡ true
unfolding takes
a_kind Bare o h = refl
a_kind Marks o h = refl
a_kind Reads o h = refl
a_kind Writes o h = refl
a_kind Updates o h = refl
a_kind Fences o h = refl
a_kind NoKind o h = absurd (false≢true h)

-- by the table
synchronises : (k : ℕ) → (not (is_kind (row k).orders) || (is_location (row k).place || (row k).sync)) ≡ true
synchronises k = each_row (λ r. not (is_kind r.orders) || (is_location r.place || r.sync)) refl k

seen : (kind at sync reads : Bool) (v w : View) → is_wall v ≡ false → is_wall w ≡ false → kind ≡ true → (not kind || (at || sync)) ≡ true
    → is_wall (cond (at && not sync) (cond reads v w) wall) ≡ sync
seen kind true true r v w h k p q = refl
seen kind true false true v w h k p q = h
seen kind true false false v w h k p q = k
seen kind false true r v w h k p q = refl
seen true false false r v w h k p q = absurd (false≢true q)
seen false false false r v w h k p q = absurd (false≢true p)

pub wall_sync : (e : Event) → lawful e ≡ true → is_wall (view e) ≡ (row e.kind).sync
wall_sync e h =
    seen (is_kind (row e.kind).orders) (is_location (row e.kind).place) (row e.kind).sync (row e.kind).reads _ _ refl refl
    (a_kind (row e.kind).orders e.order (order_of_lem e h))
    (synchronises e.kind)

-- under a list, and the registers
pub wall_in : (regs : List Bool) (e : Event) → lawful e ≡ true → is_wall (view_in regs e) ≡ ((row e.kind).sync || is_register regs e)
wall_in regs e h = go (is_register regs e)
  where
    go : (c : Bool) → is_wall (cond c wall (view e)) ≡ ((row e.kind).sync || c)
    go true = sym (or-true (row e.kind).sync)
    go false = wall_sync e h ∙ sym (or-false (row e.kind).sync)
