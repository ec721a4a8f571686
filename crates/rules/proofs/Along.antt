-- Values along runs, move by move, by any rules under which a single move keeps a trace right and the memory that it leaves. Document 01's are
-- such: the cell holds the value of the near access before, so what a move removes or inserts there was, or is, the latest. Assumes nothing.
use mathlib.Core.Path.{◌≡◌, refl, sym, ◌∙◌, ap, subst}
use mathlib.Core.Logic.{◌⊎◌, inl, inr}
use mathlib.Core.Bool.{Bool, true, false, cond}
use mathlib.Core.Option
use mathlib.Core.List.{List, [], ◌∷◌, map, head?}
use Prim.Native.Nat.{ℕ}
use lib.Dec.{T, eqb, eqb_refl}
use lib.ListN.{length, set}
use lib.Seq.{set-get_or}
use borrow.Author.Tests.{eqb-true}
use Rattle.memory.specs.Listed.{none_listed, stepped_in}
use Rattle.memory.specs.Memory.{stepped}
use Rattle.event.specs.Limit.{places}
use Rattle.kinds.specs.Kind.{lawful}
use Rattle.event.specs.declared.Event.{Event}
use Rattle.memory.specs.declared.Memory.{Memory}
use Rattle.memory.specs.declared.Stepped.{Stepped}
use Rattle.rules.specs.View.{view_in, View, load, store, value_of, wall}
use Rattle.rules.specs.Moves.{Rules, Run, group, near, Removable, Insertable, Move, Moves, By, remove, insert, swap, next, done, step, Holds, Phase}
use Rattle.rules.specs.Moves.{extend}
use Rattle.rules.specs.Run.{Traced, traced, old, new, event_of, Inserted, changes, viewed}
use Rattle.rules.specs.Demand.{right_in, Values, ValuesBy, ValuesIn}
use Rattle.rules.proofs.Latest.{Effect, effect}
use Rattle.rules.proofs.Values.{Keeps, does, first_right, into, leaves, out_of, overwritten, rest_right, swapped, idle}
use Rattle.rules.proofs.Effect.{truthful, Truthful, cell, right_lawful, step_length}
use Rattle.rules.proofs.Truth.{and}
use Rattle.rules.proofs.Chain.{by_end}
use Rattle.rules.proofs.Unlisted.{view_none}

-- ---- any rules

-- what they must be, in runs from the memory m: by what is known of the events behind and of the memory after them, a move keeps a trace right and
-- the memory that it leaves
pub record Keeping (regs : List Bool) (may : Rules Traced) (m : Memory) : Type 1 where
  pub Knows : List Traced → Memory → Type 0
  pub start : Knows [] m
  pub onward : (x : Traced) (b : List Traced) (n : Memory) → Knows b n → T (stepped_in regs n (event_of x)).right → Knows (x ∷ b) (stepped n (event_of x)).memory
  pub removing : (x : Traced) (b a : List Traced) (n : Memory) → may.Removes b x a → Knows b n → T (right_in regs n (event_of x ∷ map event_of a))
      → Keeps regs n (event_of x ∷ map event_of a) (map event_of a)
  pub inserting : (x : Traced) (b : List Traced) (s : List Event) (n : Memory) → may.Inserts b x → Knows b n → T (right_in regs n s)
      → Keeps regs n s (event_of x ∷ s)
  pub swapping : (x y : Traced) (s : List Event) (n : Memory) → may.Swaps x y → T (right_in regs n (event_of x ∷ event_of y ∷ s))
      → Keeps regs n (event_of x ∷ event_of y ∷ s) (event_of y ∷ event_of x ∷ s)

module _ {regs : List Bool} {may : Rules Traced} {m : Memory} (k : Keeping regs may m) where
  pub moved : {φ : Phase} {b s t : List Traced} → Move may φ b s t → (n : Memory) → k.Knows b n → T (right_in regs n (map event_of s))
      → Keeps regs n (map event_of s) (map event_of t)
  moved (remove {b = b} {a = a} {e = x} r) n w h = k.removing x b a n r w h
  moved (insert {b = b} {a = a} {e = x} i) n w h = k.inserting x b (map event_of a) n i w h
  moved (swap {a = a} {e = x} {f = y} d) n w h = k.swapping x y (map event_of a) n d h
  moved (next {b = b} {s = s} {t = t} {e = x} q) n w h =
      let e = event_of x in
      let o = (stepped n e).memory in
      let f = first_right regs n e (map event_of s) h in
      let r = moved q o (k.onward x b n w f) (rest_right regs n e (map event_of s) h) in
      (and (stepped_in regs n e).right (right_in regs o (map event_of t)) f r.0, r.1)

  come_by : {φ : Phase} {s t : List Traced} (r : Moves may φ [] s t) (x : List Traced) → By may x r → T (right_in regs m (map event_of s))
      → Keeps regs m (map event_of s) (map event_of x)
  come_by done x i h = rw i (h, refl)
  come_by (step q r) x (inl i) h = rw i (h, refl)
  come_by (step q r) x (inr n) h =
      let a = moved q m k.start h in
      let b = come_by r x n a.0 in
      (b.0, b.1 ∙ a.1)

  pub along : {s u : List Traced} (r : Run may s u) (x : List Traced) → By may x r.1 ⊎ By may x r.2 → T (right_in regs m (map event_of s))
      → Keeps regs m (map event_of s) (map event_of x)
  along r x (inl i) h = come_by r.1 x i h
  along r x (inr i) h =
      let a = come_by r.1 r.0 (by_end r.1) h in
      let b = come_by r.2 x i a.0 in
      (b.0, b.1 ∙ a.1)

-- ---- document 01's rules

module _ {regs : List Bool} (look : Event → View) (truthful : Truthful regs look) where
  -- each cell holds the value of the near access
  abbrev Knows : List Traced → Memory → Type 0
  Knows b m = (p w : ℕ) → Holds w (near (viewed look) p b) → cell m p ≡ w

  -- one more event, seen as v
  meets : (x : Traced) (v : View) (c d : ℕ → ℕ) (p w : ℕ) (g : List Traced) → viewed look x ≡ v → Effect c v d
      → (Holds w (Option.map (viewed look) (head? g)) → c p ≡ w) → Holds w (Option.map (viewed look) (head? (extend p v x g))) → d p ≡ w
  meets x wall c d p w g i e k h = absurd h
  meets x (load q v u) c d p w g i e k h = go (eqb p q) refl h
    where
      go : (y : Bool) → eqb p q ≡ y → Holds w (Option.map (viewed look) (head? (cond y (x ∷ g) g))) → d p ≡ w
      go true j h = e.1 p ∙ ap c (eqb-true p q j) ∙ e.0 ∙ ap value_of (sym i) ∙ h
      go false j h = e.1 p ∙ k h
  meets x (store q v) c d p w g i e k h = go (eqb p q) (e p) h
    where
      go : (y : Bool) → d p ≡ cond y v (c p) → Holds w (Option.map (viewed look) (head? (cond y (x ∷ g) g))) → d p ≡ w
      go true j h = j ∙ ap value_of (sym i) ∙ h
      go false j h = j ∙ k h

  knows_next : (x : Traced) (b : List Traced) (m : Memory) → length m.cells ≡ places → Knows b m → T (stepped_in regs m (event_of x)).right
      → Knows (x ∷ b) (stepped m (event_of x)).memory
  knows_next x b m c k h p w =
      meets x (viewed look x) (cell m) (cell (stepped m (event_of x)).memory) p w (group (viewed look) p b) refl (effect truthful m (event_of x) c h) (k p w)

  -- ---- one move

  removed : (x : Traced) (b a : List Traced) (m : Memory) (v : View) → look (event_of x) ≡ v → Removable (viewed look) b v a → Knows b m
      → T (right_in regs m (event_of x ∷ map event_of a)) → Keeps regs m (event_of x ∷ map event_of a) (map event_of a)
  removed x b a m wall i r k h = absurd r
  removed x b a m (load p v u) i r k h =
      let l = right_lawful regs m (event_of x) (first_right regs m (event_of x) (map event_of a) h) in
      idle regs m (event_of x) (map event_of a) (ap (λ (z : Stepped). z.memory) (does look truthful m (event_of x) (load p v u) i tt l)) h
  removed x b a m (store p v) i (inl r) k h =
      let l = right_lawful regs m (event_of x) (first_right regs m (event_of x) (map event_of a) h) in
      let q : set m.cells p v ≡ m.cells = rw (← k p v r) (set-get_or m.cells p 0) in
      idle regs m (event_of x) (map event_of a)
      (ap (λ (z : Stepped). z.memory) (does look truthful m (event_of x) (store p v) i tt l) ∙ ap (λ (c : List ℕ). record { cells = c }) q) h
  removed x b a m (store p v) i (inr r) k h =
      let e = event_of x in
      let s = map event_of a in
      let q = does look truthful m e (store p v) i tt (right_lawful regs m e (first_right regs m e s h)) in
      let o = overwritten look truthful p v a r m (out_of regs m e s (store p v) q h).1 in
      (o.0, o.1 ∙ sym (leaves regs m e s (store p v) q))

  inserted : (x : Traced) (b : List Traced) (s : List Event) (m : Memory) (v : View) → look (event_of x) ≡ v → T (lawful (event_of x))
      → Insertable (viewed look) b v → Knows b m → T (right_in regs m s) → Keeps regs m s (event_of x ∷ s)
  inserted x b s m wall i l r k h = absurd r
  inserted x b s m (load p v u) i l r k h =
      let e = event_of x in
      let q = does look truthful m e (load p v u) i tt l in
      let c : T (eqb v (cell m p)) = subst (λ z. T (eqb v z)) (sym (k p v r)) (eqb_refl v) in
      (into regs m e s (load p v u) q c h, leaves regs m e s (load p v u) q)
  inserted x b s m (store p v) i l r k h = absurd r

  lawful_new : (x : Traced) → Inserted x → T (lawful (event_of x))
  lawful_new (traced (old i) e) w = absurd w
  lawful_new (traced (new n) e) w = w

  pub keeping : (m : Memory) → length m.cells ≡ places → Keeping regs (changes look) m
  keeping m c = record {
    Knows = λ b n. (length n.cells ≡ places) × Knows b n;
    start = (c, λ p w k. absurd k);
    onward = λ x b n w f. (step_length n (event_of x) ∙ w.0, knows_next x b n w.0 w.1 f);
    removing = λ x b a n r w h. removed x b a n (look (event_of x)) refl r w.1 h;
    inserting = λ x b s n i w h. inserted x b s n (look (event_of x)) refl (lawful_new x i.0) i.1 w.1 h;
    swapping = λ x y s n d h. swapped look truthful n (event_of x) (event_of y) s d h;
  }

pub values_in : ValuesIn
values_in regs m s u r c h x i = along (keeping (view_in regs) (truthful regs) m c) r x i h

pub values : Values
values = subst (ValuesBy none_listed) view_none (values_in none_listed)
