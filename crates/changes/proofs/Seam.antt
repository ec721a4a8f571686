-- A step at a place, and what came before one, by index. Assumes nothing.
use mathlib.Core.Path.{◌≡◌, refl, ◌∙◌, ap}
use mathlib.Core.Bool.{Bool, true, false, cond, ◌&&◌}
use mathlib.Core.Option.{Option, none, some}
use mathlib.Core.List.{List, [], ◌∷◌, ◌++◌}
use Prim.Native.Nat.{ℕ, zero, suc, ◌<◌, ◌≤◌}
use native.Mathlib.Omega.{arith}
use lib.ListN.{length, get_or, take, drop}
use lib.Seq.{drop-cons}
use Rattle.event.specs.declared.Event.{Event}
use Rattle.rules.specs.View.{View}
use Rattle.rules.specs.Run.{Traced, tag_of, viewed}
use Rattle.changes.specs.Allowed.{may_remove, may_insert, may_swap}
use Rattle.changes.specs.Change.{is_source, removed, swapped, inserted, under, at}
use Rattle.changes.specs.Tags.{behind}

-- a loop downward takes one event off
pub behind_next : (d : Traced) (i : ℕ) (b u : List Traced) → i < length u → behind b u (suc i) ≡ get_or u i d ∷ behind b u i
behind_next d i b [] l = absurd (omega arith)
behind_next d zero b (x ∷ u) l = refl
behind_next d (suc i) b (x ∷ u) l = behind_next d i (x ∷ b) u (omega arith)

fronted : List Traced → Option (List Traced) → Option (List Traced)
fronted [] o = o
fronted (x ∷ l) o = under x (fronted l o)

fronted_if : (c : Bool) (l v : List Traced) → fronted l (cond c (some v) none) ≡ cond c (some (l ++ v)) none
unfolding fronted
fronted_if true [] v = refl
fronted_if true (x ∷ l) v = ap (under x) (fronted_if true l v)
fronted_if false [] v = refl
fronted_if false (x ∷ l) v = ap (under x) (fronted_if false l v)

at_seam : (f : List Traced → List Traced → Option (List Traced)) (i : ℕ) (b u : List Traced) → i ≤ length u
    → at i f b u ≡ fronted (take i u) (f (behind b u i) (drop i u))
unfolding fronted
at_seam f zero b u l = refl
at_seam f (suc i) b [] l = absurd (omega arith)
at_seam f (suc i) b (x ∷ u) l = ap (under x) (at_seam f i (x ∷ b) u (omega arith))

module _ (view : Event → View) where
  -- ---- a step, by index

  pub remove_seam : (d : Traced) (k i : ℕ) (u : List Traced) → i < length u
      → at i (removed view k) [] u
      ≡ cond (is_source k (tag_of (get_or u i d)) && may_remove (viewed view) (behind [] u i) (viewed view (get_or u i d)) (drop (suc i) u))
      (some (take i u ++ drop (suc i) u)) none
  remove_seam d k i u l =
      at_seam (removed view k) i [] u (omega arith)
      ∙ rw (drop-cons u i d l)
      (fronted_if (is_source k (tag_of (get_or u i d)) && may_remove (viewed view) (behind [] u i) (viewed view (get_or u i d)) (drop (suc i) u)) (take i u)
      (drop (suc i) u))

  pub swap_seam : (d : Traced) (i : ℕ) (u : List Traced) → suc i < length u
      → at i (swapped view) [] u
      ≡ cond (may_swap (viewed view) (get_or u i d) (get_or u (suc i) d)) (some (take i u ++ get_or u (suc i) d ∷ get_or u i d ∷ drop (suc (suc i)) u)) none
  swap_seam d i u l =
      at_seam (swapped view) i [] u (omega arith)
      ∙ rw (drop-cons u i d (omega arith), drop-cons u (suc i) d l)
      (fronted_if (may_swap (viewed view) (get_or u i d) (get_or u (suc i) d)) (take i u) (get_or u (suc i) d ∷ get_or u i d ∷ drop (suc (suc i)) u))

  pub insert_seam : (x : Traced) (i : ℕ) (u : List Traced) → i ≤ length u
      → at i (inserted view x) [] u ≡ cond (may_insert (viewed view) (behind [] u i) (viewed view x)) (some (take i u ++ x ∷ drop i u)) none
  insert_seam x i u l =
      at_seam (inserted view x) i [] u l ∙ fronted_if (may_insert (viewed view) (behind [] u i) (viewed view x)) (take i u) (x ∷ drop i u)
