-- Document 02, C-19: the shortened trace has the latest values, and leaves the memory that the long one leaves. Between synchronising events a location's cell
-- differs only where a store is still to come: then it holds the value of the first access, if that is a load. Assumes nothing.
use mathlib.Core.Path.{◌≡◌, refl, sym, ◌∙◌, ap, subst}
use mathlib.Core.Bool.{Bool, true, false, not, cond, ◌&&◌, ◌||◌}
use mathlib.Core.Option.{Option, none, some}
use mathlib.Core.List.{List, [], ◌∷◌, map}
use Prim.Native.Nat.{ℕ}
use lib.Dec.{T, eqb, eqb→eq, eqb_refl}
use lib.ListN.{length}
use lib.Seq.{ext_get_or}
use Rattle.event.specs.Limit.{places}
use Rattle.memory.specs.Listed.{stepped_in}
use Rattle.memory.specs.Memory.{stepped}
use Rattle.event.specs.declared.Event.{Event}
use Rattle.memory.specs.declared.Memory.{Memory}
use Rattle.memory.specs.declared.Stepped.{Stepped}
use Rattle.rules.specs.View.{View, wall, load, store}
use Rattle.rules.specs.Fault.{is_none}
use Rattle.rules.specs.Demand.{right_in, final}
use Rattle.rules.proofs.Truth.{and, and_left, and_right}
use Rattle.rules.proofs.Effect.{Truthful, cell, step_length, right_lawful, act}
use Rattle.rules.proofs.Latest.{Effect, effect}
use Rattle.rules.proofs.Values.{first_right, rest_right, does, into, leaves}
use Rattle.shelf.specs.Short.{elder, first, stored, loaded, stays, flags, pick, short}
use Rattle.shelf.proofs.First.{by_eq}

-- ---- one cell: x of the long trace, y of the short one

abbrev Held : Option View → Bool → ℕ → ℕ → Type 0
Held none c x y = y ≡ x
Held (some wall) true x y = Unit {0}
Held (some wall) false x y = y ≡ x
Held (some (load p v u)) true x y = y ≡ v
Held (some (load p v u)) false x y = y ≡ x
Held (some (store p v)) true x y = Unit {0}
Held (some (store p v)) false x y = y ≡ x

held_equal : (o : Option View) (x y : ℕ) → y ≡ x → Held o false x y
held_equal none x y e = e
held_equal (some wall) x y e = e
held_equal (some (load p v u)) x y e = e
held_equal (some (store p v)) x y e = e

equal_held : (o : Option View) (x y : ℕ) → Held o false x y → y ≡ x
equal_held none x y e = e
equal_held (some wall) x y e = e
equal_held (some (load p v u)) x y e = e
equal_held (some (store p v)) x y e = e

held_first : (o : Option View) (c : Bool) (x y : ℕ) → T (is_none o) → Held o c x y → y ≡ x
held_first none c x y t h = h
held_first (some v) c x y t h = absurd t

held_load : (o : Option View) (c : Bool) (x y p v : ℕ) (u : Bool) → x ≡ v → Held o c x y → Held (elder o (load p v u)) c x y
held_load none true x y p v u e h = h ∙ e
held_load none false x y p v u e h = h
held_load (some z) c x y p v u e h = h

-- a store goes: another one comes, or the first access is a load of its value
held_gone : (o : Option View) (c : Bool) (x x' y p v : ℕ) → x' ≡ v → T (not (not c && not (loaded v o))) → Held o true x y
    → Held (elder o (store p v)) c x' y
held_gone none true x x' y p v e t h = tt
held_gone none false x x' y p v e t h = absurd t
held_gone (some wall) true x x' y p v e t h = tt
held_gone (some wall) false x x' y p v e t h = absurd t
held_gone (some (load q w u)) true x x' y p v e t h = h
held_gone (some (load q w u)) false x x' y p v e t h = h ∙ eqb→eq w v (twice_not (eqb w v) t) ∙ sym e
  where
    twice_not : (c : Bool) → T (not (not c)) → T c
    twice_not true t = tt
    twice_not false t = absurd t
held_gone (some (store q w)) true x x' y p v e t h = tt
held_gone (some (store q w)) false x x' y p v e t h = absurd t

-- ---- all cells: c of the long trace, d of the short one

abbrev Follows : List View → List View → (ℕ → ℕ) → (ℕ → ℕ) → Type 0
Follows b a c d = (l : ℕ) → Held (first l b) (stored l a) (c l) (d l)

follows_load : (b a : List View) (c c' d : ℕ → ℕ) (p v : ℕ) (u : Bool) → Effect c (load p v u) c' → Follows b (load p v u ∷ a) c d
    → Follows (load p v u ∷ b) a c' d
follows_load b a c c' d p v u e h l =
    rw (e.1 l) (by_eq (λ y. Held (cond y (elder (first l b) (load p v u)) (first l b)) (stored l a) (c l) (d l)) l p
    (λ i. held_load (first l b) (stored l a) (c l) (d l) p v u (ap c i ∙ e.0) (h l)) (λ _. h l))

follows_gone : (b a : List View) (c c' d : ℕ → ℕ) (p v : ℕ) → Effect c (store p v) c' → T (not (stays b (store p v) a)) → Follows b (store p v ∷ a) c d
    → Follows (store p v ∷ b) a c' d
follows_gone b a c c' d p v e t h l =
    by_eq (λ y. c' l ≡ cond y v (c l) → Held (first l b) (y || stored l a) (c l) (d l)
    → Held (cond y (elder (first l b) (store p v)) (first l b)) (stored l a) (c' l) (d l)) l p
    (λ i j k. held_gone (first l b) (stored l a) (c l) (c' l) (d l) p v j (subst (λ z. T (not (not (stored z a) && not (loaded v (first z b))))) (sym i) t) k)
    (λ _ j k. rw j k) (e l) (h l)

follows_kept : (b a : List View) (c c' d d' : ℕ → ℕ) (p v : ℕ) → Effect c (store p v) c' → Effect d (store p v) d' → stored p a ≡ false
    → Follows b (store p v ∷ a) c d → Follows (store p v ∷ b) a c' d'
follows_kept b a c c' d d' p v e f t h l =
    by_eq (λ y. c' l ≡ cond y v (c l) → d' l ≡ cond y v (d l) → Held (first l b) (y || stored l a) (c l) (d l)
    → Held (cond y (elder (first l b) (store p v)) (first l b)) (stored l a) (c' l) (d' l)) l p
    (λ i j k _. let q : stored l a ≡ false = rw i t in rw q (held_equal (elder (first l b) (store p v)) (c' l) (d' l) (k ∙ sym j)))
    (λ _ j k m. rw (j, k) m) (e l) (f l) (h l)

not_false : (c : Bool) → c ≡ false → T (not c)
not_false true e = subst (λ c. T (not c)) (sym e) tt
not_false false e = tt

false_not : (c : Bool) → T (not c) → c ≡ false
false_not true h = absurd h
false_not false h = refl

-- ---- the traces

-- t is right from n, and leaves there what s leaves from m
abbrev Matches : List Bool → Memory → List Event → Memory → List Event → Type 0
Matches regs m s n t = T (right_in regs n t) × (final n t ≡ final m s)

module _ (regs : List Bool) (look : Event → View) (truthful : Truthful regs look) where
  same_memory : (b : List View) (a : List View) (m n : Memory) → length m.cells ≡ places → length n.cells ≡ places → ((l : ℕ) → stored l a ≡ false)
      → Follows b a (cell m) (cell n) → n ≡ m
  same_memory b a m n c d f h =
      ap (λ (l : List ℕ). record { cells = l })
      (ext_get_or 0 n.cells m.cells (d ∙ sym c) (λ l _. equal_held (first l b) (cell m l) (cell n l) (rw (f l) at (h l))))

  module _ (b : List View) (m n : Memory) (e : Event) (s : List Event) (c : length m.cells ≡ places) (d : length n.cells ≡ places)
      (h : T (right_in regs m (e ∷ s))) where
    abbrev Goes : View → Type 0
    Goes v =
        (n' : Memory) → length n'.cells ≡ places → Follows (v ∷ b) (map look s) (cell (stepped m e).memory) (cell n')
        → Matches regs (stepped m e).memory s n' (pick (flags (v ∷ b) (map look s)) s)

    abbrev Then : View → Type 0
    Then v =
        Matches regs m (e ∷ s) n
        (cond (stays b v (map look s)) (e ∷ pick (flags (v ∷ b) (map look s)) s) (pick (flags (v ∷ b) (map look s)) s))

    -- from one memory to one memory
    at_wall : look e ≡ wall → Follows b (wall ∷ map look s) (cell m) (cell n) → Goes wall → Then wall
    at_wall i f ih =
        let r = pick (flags (wall ∷ b) (map look s)) s in
        let q : n ≡ m = same_memory b (wall ∷ map look s) m n c d (λ l. refl) f in
        let k = ih (stepped m e).memory (step_length m e ∙ c) (λ l. refl) in
        subst (λ (z : Memory). Matches regs m (e ∷ s) z (e ∷ r)) (sym q)
        (and (stepped_in regs m e).right (right_in regs (stepped m e).memory r) (first_right regs m e s h) k.0, k.1)

    at_load : (p v : ℕ) (u : Bool) → look e ≡ load p v u → Follows b (load p v u ∷ map look s) (cell m) (cell n) → Goes (load p v u) → Then (load p v u)
    at_load p v u i f ih = go (stays b (load p v u) (map look s)) refl
      where
        r : List Event
        r = pick (flags (load p v u ∷ b) (map look s)) s

        eff : Effect (cell m) (load p v u) (cell (stepped m e).memory)
        eff = subst (λ z. Effect (cell m) z (cell (stepped m e).memory)) i (effect truthful m e c (first_right regs m e s h))

        k : Matches regs (stepped m e).memory s n (pick (flags (load p v u ∷ b) (map look s)) s)
        k = ih n d (follows_load b (map look s) (cell m) (cell (stepped m e).memory) (cell n) p v u eff f)

        go : (y : Bool) → stays b (load p v u) (map look s) ≡ y
            → Matches regs m (e ∷ s) n (cond y (e ∷ pick (flags (load p v u ∷ b) (map look s)) s) (pick (flags (load p v u ∷ b) (map look s)) s))
        go false z = k
        go true z =
            let l = right_lawful regs m e (first_right regs m e s h) in
            let q : stepped_in regs n e ≡ act (load p v u) n = does look truthful n e (load p v u) i tt l in
            let t : T (is_none (first p b)) = and_right u (is_none (first p b)) (rw z tt) in
            let x : cell n p ≡ v = held_first (first p b) (stored p (map look s)) (cell m p) (cell n p) t (f p) ∙ eff.0 in
            let w : T (eqb v (cell n p)) = rw x (eqb_refl v) in
            (into regs n e r (load p v u) q w k.0, leaves regs n e r (load p v u) q ∙ k.1)

    at_store : (p v : ℕ) → look e ≡ store p v → Follows b (store p v ∷ map look s) (cell m) (cell n) → Goes (store p v) → Then (store p v)
    at_store p v i f ih = go (stays b (store p v) (map look s)) refl
      where
        r : List Event
        r = pick (flags (store p v ∷ b) (map look s)) s

        eff : Effect (cell m) (store p v) (cell (stepped m e).memory)
        eff = subst (λ z. Effect (cell m) z (cell (stepped m e).memory)) i (effect truthful m e c (first_right regs m e s h))

        go : (y : Bool) → stays b (store p v) (map look s) ≡ y
            → Matches regs m (e ∷ s) n (cond y (e ∷ pick (flags (store p v ∷ b) (map look s)) s) (pick (flags (store p v ∷ b) (map look s)) s))
        go false z =
            ih n d (follows_gone b (map look s) (cell m) (cell (stepped m e).memory) (cell n) p v eff
            (not_false (stays b (store p v) (map look s)) z) f)
        go true z =
            let l = right_lawful regs m e (first_right regs m e s h) in
            let q : stepped_in regs n e ≡ act (store p v) n = does look truthful n e (store p v) i tt l in
            let w : T (stepped_in regs n e).right = subst (λ (z : Stepped). T z.right) (sym q) tt in
            let g : Effect (cell n) (store p v) (cell (stepped n e).memory) =
            subst (λ z. Effect (cell n) z (cell (stepped n e).memory)) i (effect truthful n e d w) in
            let t : stored p (map look s) ≡ false =
            false_not (stored p (map look s)) (and_left (not (stored p (map look s))) (not (loaded v (first p b))) (rw z tt)) in
            let k = ih (stepped n e).memory (step_length n e ∙ d)
            (follows_kept b (map look s) (cell m) (cell (stepped m e).memory) (cell n) (cell (stepped n e).memory) p v eff g t f) in
            (and (stepped_in regs n e).right (right_in regs (stepped n e).memory r) w k.0, k.1)

    at : (v : View) → look e ≡ v → Follows b (v ∷ map look s) (cell m) (cell n) → Goes v → Then v
    at wall i f ih = at_wall i f ih
    at (load p v u) i f ih = at_load p v u i f ih
    at (store p v) i f ih = at_store p v i f ih

  follow : (b : List View) (m n : Memory) (s : List Event) → length m.cells ≡ places → length n.cells ≡ places → T (right_in regs m s)
      → Follows b (map look s) (cell m) (cell n) → Matches regs m s n (pick (flags b (map look s)) s)
  follow b m n [] c d h f = (tt, same_memory b [] m n c d (λ l. refl) f)
  follow b m n (e ∷ s) c d h f =
      at b m n e s c d h (look e) refl f
      (λ n' d' f'. follow (look e ∷ b) (stepped m e).memory n' s (step_length m e ∙ c) d' (rest_right regs m e s h) f')

  pub short_right : (m : Memory) (s : List Event) → length m.cells ≡ places → T (right_in regs m s) → Matches regs m s m (short look s)
  short_right m s c h = follow [] m m s c c h (λ l. refl)
