-- In a trace whose values are the latest, but for registers, which are walls, every load agrees with the near access before it: that access left its
-- value in the cell, and nothing but a plain access or a synchronising event, which ends nearness, could change it. Assumes nothing.
use mathlib.Core.Path.{◌≡◌, refl, sym, ◌∙◌, ap}
use mathlib.Core.Bool.{Bool, true, false, cond}
use mathlib.Core.Option.{Option, none, some}
use mathlib.Core.List.{List, [], ◌∷◌}
use Prim.Native.Nat.{ℕ, suc, ◌<◌}
use native.Mathlib.Omega.{arith}
use lib.Dec.{T, eqb, eqb→eq}
use lib.ListN.{length}
use lib.Seq.{get_or-set_same, get_or-set_other}
use borrow.Author.Tests.{eqb-true, eqb-false}
use Rattle.laws.proofs.Lists.{Each}
use Rattle.memory.specs.Listed.{none_listed, stepped_in}
use Rattle.memory.specs.Memory.{stepped}
use Rattle.event.specs.Limit.{places}
use Rattle.kinds.specs.Kind.{lawful}
use Rattle.event.specs.declared.Event.{Event}
use Rattle.memory.specs.declared.Memory.{Memory}
use Rattle.memory.specs.declared.Stepped.{Stepped}
use Rattle.rules.specs.View.{View, load, store, wall}
use Rattle.rules.specs.Demand.{right, right_in}
use Rattle.rules.specs.Fault.{Item, gone, item, stays, view_of}
use Rattle.rules.specs.Verdict.{items}
use Rattle.rules.proofs.Word.{Agree, Letter, far, fits, gone_load, gone_store, kept_load, kept_store}
use Rattle.rules.proofs.Place.{Agrees, by_place, letter, word}
use Rattle.rules.proofs.Effect.{put, cell, right_lawful, step_length, Bound, Plain, Truthful, act}
use Rattle.rules.proofs.Image.{Over, over_cons, over_nil}
use Rattle.rules.proofs.Clean.{target_items}
use Rattle.rules.proofs.Truth.{and_left, and_right}

-- how the cells after an event follow from those before it
abbrev pub Effect : (ℕ → ℕ) → View → (ℕ → ℕ) → Type 0
Effect m wall m' = Unit {0}
Effect m (load p v u) m' = (m p ≡ v) × ((l : ℕ) → m' l ≡ m l)
Effect m (store p v) m' = (l : ℕ) → m' l ≡ cond (eqb l p) v (m l)

module _ (l : ℕ) where
  at_load : (n : Option ℕ) (x : Letter) (p v : ℕ) (u : Bool) (m m' : ℕ → ℕ) (w : List Letter) → Effect m (load p v u) m' → fits n (m l)
      → (fits n v → Agree (some v) w → Agree n (x ∷ w)) → ((k : Option ℕ) → fits k (m' l) → Agree k w) → Agree n (cond (eqb l p) x far ∷ w)
  at_load n x p v u m m' w e f own h =
      by_place (λ y. Agree n (y ∷ w)) l p x (tt, h n (rw (e.1 l) f))
      (λ i. let g : m l ≡ v = ap m i ∙ e.0 in own (rw g at f) (h (some v) (sym (e.1 l ∙ g))))

  at_store : (c : Bool) (n : Option ℕ) (x : Letter) (v k k' : ℕ) (w : List Letter) → k' ≡ cond c v k → fits n k
      → (Agree (some v) w → Agree n (x ∷ w)) → ((o : Option ℕ) → fits o k' → Agree o w) → Agree n (cond c x far ∷ w)
  at_store true n x v k k' w e f own h = own (h (some v) (sym e))
  at_store false n x v k k' w e f own h = (tt, h n (rw e f))

  agree₁ : (x : Item) (n : Option ℕ) (m m' : ℕ → ℕ) (w : List Letter) → Effect m (view_of x) m' → fits n (m l)
      → ((k : Option ℕ) → fits k (m' l) → Agree k w) → Agree n (letter l x ∷ w)
  agree₁ (item wall gone) n m m' w e f h = (tt, h none tt)
  agree₁ (item wall (stays y i)) n m m' w e f h = (tt, h none tt)
  agree₁ (item (load p v u) gone) n m m' w e f h = at_load n (gone_load v u) p v u m m' w e f (λ a b. (a, b)) h
  agree₁ (item (load p v u) (stays y i)) n m m' w e f h = at_load n (kept_load v) p v u m m' w e f (λ a b. (a, b)) h
  agree₁ (item (store p v) gone) n m m' w e f h = at_store (eqb l p) n (gone_store v) v (m l) (m' l) w (e l) f (λ a. (tt, a)) h
  agree₁ (item (store p v) (stays y i)) n m m' w e f h = at_store (eqb l p) n (kept_store v) v (m l) (m' l) w (e l) f (λ a. (tt, a)) h

-- an item is seen as its event is
abbrev Faces : (Event → View) → Event → Item → Type 0
Faces look e x = view_of x ≡ look e

cell_put : (m : Memory) (p v l : ℕ) → p < length m.cells → cell (put m p v) l ≡ cond (eqb l p) v (cell m l)
cell_put m p v l h = go (eqb l p) refl
  where
    go : (c : Bool) → eqb l p ≡ c → cell (put m p v) l ≡ cond c v (cell m l)
    go true q = rw (eqb-true l p q) (get_or-set_same m.cells p v 0 h)
    go false q = get_or-set_other m.cells p l v 0 (eqb-false l p q)

effect_of : (m : Memory) (r : Stepped) (v : View) → (Plain v → r ≡ act v m) → Bound v → length m.cells ≡ places → T r.right
    → Effect (cell m) v (cell r.memory)
effect_of m r wall a b c h = tt
effect_of m r (load p v u) a b c h = (sym (eqb→eq v (cell m p) (rw (a tt) at h)), λ l. rw (a tt))
effect_of m r (store p v) a b c h = λ l. rw (a tt) (cell_put m p v l (omega arith))

pub effect : {regs : List Bool} {look : Event → View} → Truthful regs look → (m : Memory) (e : Event) → length m.cells ≡ places
    → T (stepped_in regs m e).right → Effect (cell m) (look e) (cell (stepped m e).memory)
effect {regs} {look} truthful m e c h =
    let l = right_lawful regs m e h in effect_of m (stepped_in regs m e) (look e) (truthful.acts m e l) (truthful.bounds e l) c h

module _ (regs : List Bool) (look : Event → View) (truthful : Truthful regs look) where
  agree : (l : ℕ) (m : Memory) (n : Option ℕ) {s : List Event} {x : List Item} → Over (Faces look) s x → length m.cells ≡ places → T (right_in regs m s)
      → fits n (cell m l) → Agree n (word l x)
  agree l m n over_nil c h f = tt
  agree l m n (over_cons {x = e} {y = y} {s = s} {t = x} q o) c h f =
      let a : T (stepped_in regs m e).right = and_left (stepped_in regs m e).right (right_in regs (stepped m e).memory s) h in
      let b : T (right_in regs (stepped m e).memory s) = and_right (stepped_in regs m e).right (right_in regs (stepped m e).memory s) h in
      agree₁ l y n (cell m) (cell (stepped m e).memory) (word l x) (rw q (effect truthful m e c a)) f
      (λ k g. agree l (stepped m e).memory k o (step_length m e ∙ c) b g)

  over_items : (s : List Event) (ns : List ℕ) → length ns ≡ length s → Over (Faces look) s (items look s ns)
  over_items [] ns h = over_nil
  over_items (e ∷ s) [] h = absurd (omega arith)
  over_items (e ∷ s) (n ∷ ns) h = over_cons refl (over_items s ns (omega arith))

  over_targets : (ns : List ℕ) (k : ℕ) (t : List Event) → Over (Faces look) t (target_items look ns k t)
  over_targets ns k [] = over_nil
  over_targets ns k (e ∷ t) = over_cons refl (over_targets ns (suc k) t)

  pub agrees_source : (m : Memory) (s : List Event) (ns : List ℕ) → length m.cells ≡ places → length ns ≡ length s → T (right_in regs m s)
      → Agrees (items look s ns)
  agrees_source m s ns c h r l = agree l m none (over_items s ns h) c r tt

  pub agrees_target : (m : Memory) (ns : List ℕ) (t : List Event) → length m.cells ≡ places → T (right_in regs m t) → Agrees (target_items look ns 1 t)
  agrees_target m ns t c r l = agree l m none (over_targets ns 1 t) c r tt

pub all_lawful_in : (regs : List Bool) (m : Memory) (s : List Event) → T (right_in regs m s) → Each (λ e. T (lawful e)) s
all_lawful_in regs m [] h = tt
all_lawful_in regs m (e ∷ s) h =
    let q = stepped_in regs m e in (
      right_lawful regs m e (and_left q.right (right_in regs q.memory s) h),
      all_lawful_in regs q.memory s (and_right q.right (right_in regs q.memory s) h),
    )

pub all_lawful : (m : Memory) (s : List Event) → T (right m s) → Each (λ e. T (lawful e)) s
all_lawful = all_lawful_in none_listed
