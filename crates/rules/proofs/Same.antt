-- What it means for events to be the same, marks and code lines apart: each event is its own like, and the rules see two such events alike. Assumes nothing.
use mathlib.Core.Path.{◌≡◌}
use mathlib.Core.Bool.{Bool, true, false, cond, ◌&&◌, ◌||◌}
use mathlib.Core.List.{List}
use Prim.Native.Nat.{ℕ}
use lib.Dec.{T, eqb, eqb→eq, eqb_refl}
use Rattle.event.specs.declared.Event.{Event}
use Rattle.kinds.specs.Kind.{used, row, plain, is_load_kind}
use Rattle.memory.specs.Listed.{is_register}
use Rattle.rules.specs.View.{same, view, view_in, load, store, wall}
use Rattle.rules.proofs.Matching.{Alike, equal, marked}
use Rattle.rules.proofs.Truth.{and, and_left, and_right, or_right}

pub same_refl : (e : Event) → T (same e e)
same_refl e = go (eqb e.kind e.kind) (eqb e.place e.place) (eqb e.first e.first) (eqb e.second e.second)
    (is_load_kind e.kind) (eqb e.order e.order) (eqb_refl e.kind) (eqb_refl e.place) (eqb_refl e.first) (eqb_refl e.second)
    (eqb_refl e.order)
  where
    go : (a b c d m o : Bool) → T a → T b → T c → T d → T o → T (a && (b && (c && (d && (m || o)))))
    go a b c d m o h i j k n =
        and a (b && (c && (d && (m || o)))) h (and b (c && (d && (m || o))) i (and c (d && (m || o)) j (and d (m || o) k (or_right m o n))))

-- what the same events share: all but the mark of a load, and the code line
pub record Shared (e f : Event) : Type 0 where
  pub kinds : e.kind ≡ f.kind
  pub places : e.place ≡ f.place
  pub firsts : e.first ≡ f.first
  pub seconds : e.second ≡ f.second
  pub orders : T (is_load_kind e.kind || eqb e.order f.order)

pub shared : (e f : Event) → T (same e f) → Shared e f
shared e f h =
    let a = eqb e.kind f.kind in
    let b = eqb e.place f.place in
    let c = eqb e.first f.first in
    let d = eqb e.second f.second in
    let g = is_load_kind e.kind || eqb e.order f.order in
    let i = and_right a (b && (c && (d && g))) h in
    let j = and_right b (c && (d && g)) i in
    let k = and_right c (d && g) j in
    record {
      kinds = eqb→eq e.kind f.kind (and_left a (b && (c && (d && g))) h);
      places = eqb→eq e.place f.place (and_left b (c && (d && g)) i);
      firsts = eqb→eq e.first f.first (and_left c (d && g) j);
      seconds = eqb→eq e.second f.second (and_left d g k);
      orders = and_right d g k;
    }

alike_view : (c d : Bool) (p v : ℕ) (u u' : Bool) → Alike (cond c (cond d (load p v u) (store p v)) wall) (cond c (cond d (load p v u') (store p v)) wall)
alike_view true true p v u u' = marked
alike_view true false p v u u' = equal
alike_view false d p v u u' = equal

pub alike : (e f : Event) → T (same e f) → Alike (view e) (view f)
alike e f h =
    let r = shared e f h in
    rw (r.kinds, r.places, r.firsts)
    (alike_view (plain f) (row f.kind).reads f.place f.first (eqb e.order used) (eqb f.order used))

-- a register's like is a register
pub alike_in : (regs : List Bool) (e f : Event) → T (same e f) → Alike (view_in regs e) (view_in regs f)
alike_in regs e f h = let r = shared e f h in go (is_register regs e) (is_register regs f) (rw (r.kinds, r.places)) (alike e f h)
  where
    go : (c d : Bool) → c ≡ d → Alike (view e) (view f) → Alike (cond c wall (view e)) (cond d wall (view f))
    go true d q a = rw (← q) equal
    go false d q a = rw (← q) a
