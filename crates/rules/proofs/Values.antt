-- Values along runs. A removed load leaves the memory, a removed store finds its value in the cell or is overwritten before the cell is read, swapped
-- events touch different cells, and an inserted load finds its value in the cell: so every move keeps a trace right and its last memory. Assumes nothing.
use mathlib.Core.Path.{◌≡◌, refl, sym, ◌∙◌, ap, subst}
use mathlib.Core.Logic.{◌≢◌}
use mathlib.Core.Bool.{not, ◌&&◌, Bool, true, false, cond}
use mathlib.Core.List.{List, ◌∷◌, [], map, head?}
use mathlib.Core.Option
use Prim.Native.Nat.{ℕ}
use lib.Dec.{T, eqb, eqb_refl, T_not}
use lib.Seq.{get_or-set_other, set_comm, set-set}
use borrow.Author.Tests.{eqb-true, eqb-false}
use Rattle.memory.specs.Listed.{stepped_in}
use Rattle.memory.specs.Memory.{stepped}
use Rattle.kinds.specs.Kind.{lawful}
use Rattle.event.specs.declared.Event.{Event}
use Rattle.memory.specs.declared.Memory.{Memory}
use Rattle.memory.specs.declared.Stepped.{Stepped}
use Rattle.rules.specs.Demand.{right_in, final}
use Rattle.rules.specs.View.{View, apart, load, store, wall}
use Rattle.rules.specs.Moves.{Stores, group, near, extend}
use Rattle.rules.specs.Run.{Traced, event_of, viewed}
use Rattle.rules.proofs.Effect.{put, Plain, Truthful, act, right_lawful, cell}
use Rattle.rules.proofs.Truth.{and, and_left, and_right}

-- t is as right as s, and leaves the same memory
abbrev pub Keeps : List Bool → Memory → List Event → List Event → Type 0
Keeps regs m s t = T (right_in regs m t) × (final m t ≡ final m s)

apart_places : (p q : ℕ) → T (not (eqb p q)) → p ≢ q
apart_places p q d i = T_not (eqb p q) d (subst (λ z. T (eqb p z)) i (eqb_refl p))

-- two plain events at different locations
commute : (v w : View) (m : Memory) → T (apart v w) → T (act v m).right → T (act w (act v m).memory).right
    → T (act w m).right × T (act v (act w m).memory).right × ((act v (act w m).memory).memory ≡ (act w (act v m).memory).memory)
commute wall w m d a b = absurd d
commute (load p v u) wall m d a b = absurd d
commute (store p v) wall m d a b = absurd d
commute (load p v u) (load q w u') m d a b = (b, a, refl)
commute (load p v u) (store q w) m d a b = (tt, rw (get_or-set_other m.cells q p w 0 (apart_places p q d)) a, refl)
commute (store p v) (load q w u) m d a b =
    (rw (get_or-set_other m.cells p q v 0 (λ i. apart_places p q d (sym i))) at b, tt, refl)
commute (store p v) (store q w) m d a b =
    (tt, tt, ap (λ (l : List ℕ). record { cells = l }) (sym (set_comm m.cells p q v w (apart_places p q d))))

plain_left : (v w : View) → T (apart v w) → Plain v
plain_left wall w d = absurd d
plain_left (load p v u) w d = tt
plain_left (store p v) w d = tt

plain_right : (v w : View) → T (apart v w) → Plain w
plain_right wall w d = absurd d
plain_right (load p v u) wall d = absurd d
plain_right (store p v) wall d = absurd d
plain_right (load p v u) (load q w u') d = tt
plain_right (load p v u) (store q w) d = tt
plain_right (store p v) (load q w u) d = tt
plain_right (store p v) (store q w) d = tt

-- ---- one event

module _ (regs : List Bool) (m : Memory) (e : Event) (s : List Event) where
  pub first_right : T (right_in regs m (e ∷ s)) → T (stepped_in regs m e).right
  first_right h = and_left (stepped_in regs m e).right (right_in regs (stepped m e).memory s) h

  pub rest_right : T (right_in regs m (e ∷ s)) → T (right_in regs (stepped m e).memory s)
  rest_right h = and_right (stepped_in regs m e).right (right_in regs (stepped m e).memory s) h

  -- an event that leaves the memory can go
  pub idle : (stepped m e).memory ≡ m → T (right_in regs m (e ∷ s)) → Keeps regs m (e ∷ s) s
  idle q h = (rw q at (rest_right h), ap (λ (z : Memory). final z s) (sym q))

  module _ (v : View) (q : stepped_in regs m e ≡ act v m) where
    pub into : T (act v m).right → T (right_in regs (act v m).memory s) → T (right_in regs m (e ∷ s))
    into a b = subst (λ (z : Stepped). T (z.right && right_in regs z.memory s)) (sym q) (and (act v m).right (right_in regs (act v m).memory s) a b)

    pub out_of : T (right_in regs m (e ∷ s)) → T (act v m).right × T (right_in regs (act v m).memory s)
    out_of h =
        let k = subst (λ (z : Stepped). T (z.right && right_in regs z.memory s)) q h in
        (and_left (act v m).right (right_in regs (act v m).memory s) k, and_right (act v m).right (right_in regs (act v m).memory s) k)

    pub leaves : final m (e ∷ s) ≡ final (act v m).memory s
    leaves = ap (λ (z : Stepped). final z.memory s) q

module _ {regs : List Bool} (look : Event → View) (truthful : Truthful regs look) where
  pub does : (m : Memory) (e : Event) (v : View) → look e ≡ v → Plain v → T (lawful e) → stepped_in regs m e ≡ act v m
  does m e v i p l = truthful.acts m e l (rw i p) ∙ ap (λ z. act z m) i

  -- ---- swaps

  pub swapped : (m : Memory) (e f : Event) (s : List Event) → T (apart (look e) (look f)) → T (right_in regs m (e ∷ f ∷ s))
      → Keeps regs m (e ∷ f ∷ s) (f ∷ e ∷ s)
  swapped m e f s d h =
      let v = look e in
      let w = look f in
      let le = right_lawful regs m e (first_right regs m e (f ∷ s) h) in
      let lf = right_lawful regs (stepped m e).memory f (first_right regs (stepped m e).memory f s (rest_right regs m e (f ∷ s) h)) in
      let se : (n : Memory) → stepped_in regs n e ≡ act v n = λ n. does n e v refl (plain_left v w d) le in
      let sf : (n : Memory) → stepped_in regs n f ≡ act w n = λ n. does n f w refl (plain_right v w d) lf in
      let m₁ = (act v m).memory in
      let n₁ = (act w m).memory in
      let a = out_of regs m e (f ∷ s) v (se m) h in
      let b = out_of regs m₁ f s w (sf m₁) a.1 in
      let c = commute v w m d a.0 b.0 in (
        into regs m f (e ∷ s) w (sf m) c.0 (into regs n₁ e s v (se n₁) c.1 (rw c.2 b.1)),
        leaves regs m f (e ∷ s) w (sf m) ∙ leaves regs n₁ e s v (se n₁) ∙ ap (λ (z : Memory). final z s) c.2
            ∙ sym (leaves regs m e (f ∷ s) v (se m) ∙ leaves regs m₁ f s w (sf m₁)),
      )

  -- ---- a store that is overwritten

  Spared : ℕ → ℕ → List Event → Memory → Type 0
  Spared p v s m = T (right_in regs (put m p v) s) → T (right_in regs m s) × (final m s ≡ final (put m p v) s)

  module _ (p v : ℕ) (e : Event) (s : List Event) (m : Memory) (i : (n : Memory) (w : View) → look e ≡ w → Plain w → stepped_in regs n e ≡ act w n) where
    past_load : (q u : ℕ) (y : Bool) → look e ≡ load q u y → q ≢ p → Spared p v s m → Spared p v (e ∷ s) m
    unfolding Spared
    past_load q u y k ne ih h =
        let w = load q u y in
        let a = out_of regs (put m p v) e s w (i (put m p v) w k tt) h in
        let r = ih a.1 in
        let c : T (eqb u (cell m q)) = rw (get_or-set_other m.cells p q v 0 ne) at a.0 in (
          into regs m e s w (i m w k tt) c r.0,
          leaves regs m e s w (i m w k tt) ∙ r.1 ∙ sym (leaves regs (put m p v) e s w (i (put m p v) w k tt)),
        )

    by_store : (u : ℕ) → look e ≡ store p u → Spared p v (e ∷ s) m
    unfolding Spared
    by_store u k h =
        let w = store p u in
        let a = out_of regs (put m p v) e s w (i (put m p v) w k tt) h in
        let c : put (put m p v) p u ≡ put m p u = ap (λ (l : List ℕ). record { cells = l }) (set-set m.cells p v u) in (
          into regs m e s w (i m w k tt) tt (rw c at a.1),
          leaves regs m e s w (i m w k tt) ∙ ap (λ (z : Memory). final z s) (sym c) ∙ sym (leaves regs (put m p v) e s w (i (put m p v) w k tt)),
        )

    past_store : (q u : ℕ) → look e ≡ store q u → q ≢ p → Spared p v s (put m q u) → Spared p v (e ∷ s) m
    unfolding Spared
    past_store q u k ne ih h =
        let w = store q u in
        let a = out_of regs (put m p v) e s w (i (put m p v) w k tt) h in
        let c : put (put m p v) q u ≡ put (put m q u) p v =
        ap (λ (l : List ℕ). record { cells = l }) (set_comm m.cells p q v u (λ z. ne (sym z))) in
        let r = ih (rw c at a.1) in (
          into regs m e s w (i m w k tt) tt r.0,
          leaves regs m e s w (i m w k tt) ∙ r.1 ∙ ap (λ (z : Memory). final z s) (sym c) ∙ sym (leaves regs (put m p v) e s w (i (put m p v) w k tt)),
        )

  overwritten₁ : (p v : ℕ) (x : Traced) (a : List Traced) (m : Memory) (w : View) → look (event_of x) ≡ w
      → Stores (Option.map (viewed look) (head? (extend p w x (group (viewed look) p a))))
      → ((n : Memory) → Stores (near (viewed look) p a) → Spared p v (map event_of a) n) → Spared p v (event_of x ∷ map event_of a) m
  unfolding Spared
  overwritten₁ p v x a m w k o ih h = go w k o
    where
      e : Event
      e = event_of x

      s : List Event
      s = map event_of a

      i : (n : Memory) (w : View) → look e ≡ w → Plain w → stepped_in regs n e ≡ act w n
      i n w k y = does n e w k y (right_lawful regs (put m p v) e (first_right regs (put m p v) e s h))

      other : (q : ℕ) → eqb p q ≡ false → q ≢ p
      other q j z = eqb-false p q j (sym z)

      load_go : (q u : ℕ) (y c : Bool) → eqb p q ≡ c → look e ≡ load q u y
          → Stores (Option.map (viewed look) (head? (cond c (x ∷ group (viewed look) p a) (group (viewed look) p a))))
          → T (right_in regs m (e ∷ s)) × (final m (e ∷ s) ≡ final (put m p v) (e ∷ s))
      load_go q u y true j k o = absurd (rw k at o)
      load_go q u y false j k o = past_load p v e s m i q u y k (other q j) (ih m o) h

      store_go : (q u : ℕ) (c : Bool) → eqb p q ≡ c → look e ≡ store q u
          → Stores (Option.map (viewed look) (head? (cond c (x ∷ group (viewed look) p a) (group (viewed look) p a))))
          → T (right_in regs m (e ∷ s)) × (final m (e ∷ s) ≡ final (put m p v) (e ∷ s))
      store_go q u true j k o = by_store p v e s m i u (rw (eqb-true p q j) k) h
      store_go q u false j k o = past_store p v e s m i q u k (other q j) (ih (put m q u) o) h

      go : (w : View) → look e ≡ w → Stores (Option.map (viewed look) (head? (extend p w x (group (viewed look) p a))))
          → T (right_in regs m (e ∷ s)) × (final m (e ∷ s) ≡ final (put m p v) (e ∷ s))
      go wall k o = absurd o
      go (load q u y) k o = load_go q u y (eqb p q) refl k o
      go (store q u) k o = store_go q u (eqb p q) refl k o

  pub overwritten : (p v : ℕ) (a : List Traced) → Stores (near (viewed look) p a) → (m : Memory) → T (right_in regs (put m p v) (map event_of a))
      → T (right_in regs m (map event_of a)) × (final m (map event_of a) ≡ final (put m p v) (map event_of a))
  unfolding Spared
  overwritten p v [] o m h = absurd o
  overwritten p v (x ∷ a) o m h = overwritten₁ p v x a m (look (event_of x)) refl o (λ n o. overwritten p v a o n) h
