-- What is done in the fixed order is a run, if an event may be swapped with each later one that it stands above: a removal leaves that so, and a
-- swap too, since of two events at most one stands above the other. And back: it is so before a move that removes only what is gone, if it is
-- so after it. By any rules. Assumes nothing.
use mathlib.Core.List.{List, [], ◌∷◌}
use Rattle.laws.proofs.Lists.{Each, each_all}
use Rattle.rules.specs.Moves.{Phase, one, two, Rules, Move, Moves, Run, remove, insert, swap, next, done, step}
use Rattle.rules.proofs.Fixed.{Last, Lasts, out, under, end, more, Low, Lows, low, after, calm, again, Fill, full, leave, put, InOrder, Clash}
use Rattle.rules.proofs.Fixed.{Orderly}
use Rattle.rules.proofs.Chain.{all_one, chain, lift, Strict, AllStrict}

module _ {E : Type 0} (may : Rules E) (Gone : E → Type 0) (Above : E → E → Type 0) where
  -- ---- removing

  move_last : {b s t : List E} → Last may Gone b s t → Move may one b s t
  move_last (out r g m) = remove m
  move_last (under q) = next (move_last q)

  moves_lasts : {s t : List E} → Lasts may Gone s t → Moves may one [] s t
  moves_lasts (end r) = done
  moves_lasts (more q r) = step (move_last q) (moves_lasts r)

  orderly_last : {b s t : List E} → Last may Gone b s t → Orderly may Above s → Orderly may Above t
  orderly_last (out r g m) o = o.1
  orderly_last (under {e = e} q) o = (all_one (Clash may Above e) (move_last q) o.0, orderly_last q o.1)

  pub orderly_lasts : {s t : List E} → Lasts may Gone s t → Orderly may Above s → Orderly may Above t
  orderly_lasts (end r) o = o
  orderly_lasts (more q r) o = orderly_lasts r (orderly_last q o)

  -- ---- sorting

  move_low : {φ : Phase} {b s t : List E} → Low Above s t → Orderly may Above s → Move may φ b s t
  move_low (low h) o = swap (o.0.0 h)
  move_low {b = b} (after {e = e} h q) o = next (move_low {b = e ∷ b} q o.1)

  each_low : (P : E → Type 0) {s t : List E} → Low Above s t → Each P s → Each P t
  each_low P (low h) k = (k.1.0, (k.0, k.1.1))
  each_low P (after h q) k = (k.0, each_low P q k.1)

  module _ (asym : (e f : E) → Above e f → Above f e → ⊥) where
    pub orderly_low : {s t : List E} → Low Above s t → Orderly may Above s → Orderly may Above t
    orderly_low (low {e = e} {f = f} h) o = ((λ k. absurd (asym e f h k), o.1.0), (o.0.1, o.1.1))
    orderly_low (after {e = e} h q) o = (each_low (Clash may Above e) q o.0, orderly_low q o.1)

    moves_lows : {φ : Phase} {b s t : List E} → Lows Above s t → Orderly may Above s → Moves may φ b s t
    moves_lows (calm c) o = done
    moves_lows (again q r) o = step (move_low q o) (moves_lows r (orderly_low q o))

    -- ---- inserting

    moves_fill : {b s t : List E} → Fill may b s t → Moves may two b s t
    moves_fill full = done
    moves_fill (leave {e = e} f) = lift e (moves_fill f)
    moves_fill (put {e = e} i f) = step (insert i) (lift e (moves_fill f))

    pub run_in_order : {s t : List E} → InOrder may Gone Above s t → Orderly may Above s → Run may s t
    run_in_order c o =
        (c.kept, moves_lasts c.removing, chain (moves_lows c.sorting (orderly_lasts c.removing o)) (moves_fill c.inserting))

  -- ---- and back

  module _ (from : (e f : E) → Gone e → Above e f → ⊥) (to : (e f : E) → Gone f → Above e f → ⊥) where
    clash_move : (e : E) {φ : Phase} {b s t : List E} (m : Move may φ b s t) → Strict Gone m → Each (Clash may Above e) t → Each (Clash may Above e) s
    clash_move e (remove {e = x} r) g h = (λ k. absurd (to e x g k), h)
    clash_move e (insert i) g h = h.1
    clash_move e (swap d) g h = (h.1.0, (h.0, h.1.1))
    clash_move e (next m) g h = (h.0, clash_move e m g h.1)

    orderly_move : {φ : Phase} {b s t : List E} (m : Move may φ b s t) → Strict Gone m → Orderly may Above t → Orderly may Above s
    orderly_move (remove {a = a} {e = e} r) g o = (each_all (Clash may Above e) (λ f k. absurd (from e f g k)) a, o)
    orderly_move (insert i) g o = o.1
    orderly_move (swap d) g o = ((λ _. d, o.1.0), (o.0.1, o.1.1))
    orderly_move (next {e = e} m) g o = (clash_move e m g o.0, orderly_move m g o.1)

    pub orderly_moves : {φ : Phase} {b s t : List E} (r : Moves may φ b s t) → AllStrict Gone r → Orderly may Above t → Orderly may Above s
    orderly_moves done g o = o
    orderly_moves (step m r) g o = orderly_move m g.0 (orderly_moves r g.1 o)
