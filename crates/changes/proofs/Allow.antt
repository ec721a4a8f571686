-- A step that is applied is a move by the rules. Assumes nothing.
use mathlib.Core.Path.{◌≡◌, refl, subst}
use mathlib.Core.Bool.{Bool, true, false, cond, ◌&&◌}
use mathlib.Core.Option.{Option, none, some, some-injective, none-ne-some}
use mathlib.Core.List.{List, [], ◌∷◌}
use Prim.Native.Nat.{ℕ, zero, suc, ◌<◌}
use native.Mathlib.Omega.{arith}
use lib.Dec.{T, ltb, ltb→lt}
use lib.ListN.{length, get_or}
use Rattle.laws.proofs.Lists.{Each}
use Rattle.kinds.specs.Kind.{lawful}
use Rattle.event.specs.Room.{no_event}
use Rattle.event.specs.declared.Event.{Event}
use Rattle.rules.specs.View.{View}
use Rattle.rules.specs.Moves.{Phase, one, two, Move, remove, insert, swap, next}
use Rattle.rules.specs.Run.{new, Traced, traced, tag_of, Inserted, viewed, changes}
use Rattle.rules.proofs.Truth.{and_left, and_right}
use Rattle.changes.specs.Allowed.{may_remove, may_insert, may_swap}
use Rattle.changes.specs.Change.{is_source, under, at, removed, swapped, inserted, applied, phase}
use Rattle.changes.specs.declared.Step.{Step}
use Rattle.changes.specs.declared.Step.TheVariants.{Remove, Swap, Insert, Done, Stuck}
use Rattle.changes.proofs.May.{if_removable, if_insertable}
use Rattle.event.specs.Limit.{event_limit}

-- what a test lets through
pub through : {A : Type 0} (c : Bool) (x y : A) → cond c (some x) none ≡ some y → T c × (x ≡ y)
through true x y h = (tt, some-injective x y h)
through false x y h = absurd (none-ne-some y h)

pub passed : {A : Type 0} (c : Bool) (o : Option A) (y : A) → cond c o none ≡ some y → T c × (o ≡ some y)
passed true o y h = (tt, h)
passed false o y h = absurd (none-ne-some y h)

each_at : (P : Event → Type 0) (t : List Event) (i : ℕ) → i < length t → Each P t → P (get_or t i no_event)
each_at P [] i l h = absurd (omega arith)
each_at P (e ∷ t) zero l h = h.0
each_at P (e ∷ t) (suc i) l h = each_at P t i (omega arith) h.1

module _ (view : Event → View) where
  abbrev pub Shift : Phase → List Traced → List Traced → List Traced → Type 0
  Shift φ b u v = Move (changes view) φ b u v

  pub at_move : (φ : Phase) (f : List Traced → List Traced → Option (List Traced)) → ((b u v : List Traced) → f b u ≡ some v → Shift φ b u v)
      → (i : ℕ) (b u v : List Traced) → at i f b u ≡ some v → Shift φ b u v
  at_move φ f g zero b u v h = g b u v h
  at_move φ f g (suc i) b [] v h = absurd (none-ne-some v h)
  at_move φ f g (suc i) b (x ∷ u) v h = go (at i f (x ∷ b) u) h (at_move φ f g i (x ∷ b) u)
    where
      go : (o : Option (List Traced)) → under x o ≡ some v → ((w : List Traced) → o ≡ some w → Shift φ (x ∷ b) u w) → Shift φ b (x ∷ u) v
      go none h ih = absurd (none-ne-some v h)
      go (some w) h ih = subst (λ z. Shift φ b (x ∷ u) z) (some-injective (x ∷ w) v h) (next (ih w refl))

  removed_move : (k : ℕ) (b u v : List Traced) → removed view k b u ≡ some v → Shift one b u v
  removed_move k b [] v h = absurd (none-ne-some v h)
  removed_move k b (x ∷ a) v h =
      let c = is_source k (tag_of x) in
      let d = may_remove (viewed view) b (viewed view x) a in
      let r = through (c && d) a v h in
      subst (λ z. Shift one b (x ∷ a) z) r.1 (remove ((if_removable (viewed view) b (viewed view x) a).0 (and_right c d r.0)))

  pub swapped_move : (φ : Phase) (b u v : List Traced) → swapped view b u ≡ some v → Shift φ b u v
  swapped_move φ b [] v h = absurd (none-ne-some v h)
  swapped_move φ b (x ∷ []) v h = absurd (none-ne-some v h)
  swapped_move φ b (x ∷ y ∷ a) v h =
      let r = through (may_swap (viewed view) x y) (y ∷ x ∷ a) v h in
      subst (λ z. Shift φ b (x ∷ y ∷ a) z) r.1 (swap r.0)

  inserted_move : (x : Traced) → Inserted x → (b u v : List Traced) → inserted view x b u ≡ some v → Shift two b u v
  inserted_move x w b u v h =
      let r = through (may_insert (viewed view) b (viewed view x)) (x ∷ u) v h in
      subst (λ z. Shift two b u z) r.1 (insert (w, (if_insertable (viewed view) b (viewed view x)).0 r.0))

  -- an applied step is a move of its phase
  pub allowed : (t : List Event) → Each (λ e. T (lawful e)) t → (st : Step) (u v : List Traced) → applied view t st u ≡ some v
      → Move (changes view) (phase st) [] u v
  allowed t l (Remove zero k) u v h = absurd (none-ne-some v h)
  allowed t l (Remove (suc i) k) u v h = at_move one (removed view k) (removed_move k) i [] u v h
  allowed t l (Swap zero) u v h = absurd (none-ne-some v h)
  allowed t l (Swap (suc i)) u v h = at_move two (swapped view) (swapped_move two) i [] u v h
  allowed t l (Insert zero) u v h = absurd (none-ne-some v h)
  allowed t l (Insert (suc i)) u v h =
      let x = traced (new (suc i)) (get_or t i no_event) in
      let r = passed (ltb i (length t) && ltb (length u) event_limit) (at i (inserted view x) [] u) v h in
      at_move two (inserted view x) (inserted_move x (each_at (λ e. T (lawful e)) t i
      (ltb→lt i (length t) (and_left (ltb i (length t)) (ltb (length u) event_limit) r.0)) l)) i [] u v r.1
  allowed t l Done u v h = absurd (none-ne-some v h)
  allowed t l Stuck u v h = absurd (none-ne-some v h)
