-- The fixed order of one list of events is that of another that is related to it one by one, where the same are gone, the same stand above one
-- another, and the rules allow the same. What is inserted needs a counterpart. Assumes nothing.
use mathlib.Core.Logic.{◌↔◌}
use mathlib.Core.List.{List, [], ◌∷◌}
use Rattle.laws.proofs.Lists.{Each}
use Rattle.rules.specs.Moves.{Rules}
use Rattle.rules.proofs.Fixed.{Clash, Orderly, Still, Last, Lasts, out, under, end, more, Calm, Low, Lows, low, after, calm, again, Fill, full}
use Rattle.rules.proofs.Fixed.{leave, put}
use Rattle.rules.proofs.Image.{Allows, Over, over_cons, over_nil}

module _ {E F : Type 0} {R : E → F → Type 0} {mayE : Rules E} {mayF : Rules F} {Has : F → Type 0} (allows : Allows R mayE mayF Has) where
  -- ---- removing

  module _ (GoneE : E → Type 0) (GoneF : F → Type 0) (gone : (x : E) (y : F) → R x y → GoneE x ↔ GoneF y) where
    still_over : {b s : List E} {b' s' : List F} → Over R b b' → Over R s s' → Still mayF GoneF b' s' → Still mayE GoneE b s
    still_over o over_nil h = tt
    still_over {b = b} {b' = b'} o (over_cons {x = x} {y = y} q p) h =
        (λ g r. h.0 ((gone x y q).0 g) ((allows.removes x y q o p).0 r), still_over {b = x ∷ b} {b' = y ∷ b'} (over_cons q o) p h.1)

    last_over : {b s : List E} {b' s' t' : List F} → Last mayF GoneF b' s' t' → Over R b b' → Over R s s' → (t : List E) × Last mayE GoneE b s t × Over R t t'
    last_over (out {e = y} h g m) o (over_cons {x = x} {s = s} q p) =
        (s, out (still_over (over_cons q o) p h) ((gone x y q).1 g) ((allows.removes x y q o p).1 m), p)
    last_over {b = b} (under l) o (over_cons {x = x} q p) = let r = last_over {b = x ∷ b} l (over_cons q o) p in (x ∷ r.0, under r.1, over_cons q r.2)

    pub lasts_over : {s : List E} {s' t' : List F} → Lasts mayF GoneF s' t' → Over R s s' → (t : List E) × Lasts mayE GoneE s t × Over R t t'
    lasts_over {s} (end h) p = (s, end (still_over over_nil p h), p)
    lasts_over {s} (more l r) p =
        let a = last_over l over_nil p in
        let b = lasts_over {s = a.0} r a.2 in
        (b.0, more a.1 b.1, b.2)

  -- ---- sorting

  module _ (AboveE : E → E → Type 0) (AboveF : F → F → Type 0) (above : (x z : E) (y w : F) → R x y → R z w → AboveE x z ↔ AboveF y w) where
    calm_over : {s : List E} {s' : List F} → Over R s s' → Calm AboveF s' → Calm AboveE s
    calm_over over_nil c = tt
    calm_over (over_cons q over_nil) c = tt
    calm_over (over_cons {x = x} {y = y} q (over_cons {x = z} {y = w} r p)) c =
        (λ h. c.0 ((above x z y w q r).0 h), calm_over (over_cons r p) c.1)

    clash_over : (x : E) (y : F) → R x y → {s : List E} {s' : List F} → Over R s s' → Each (Clash mayF AboveF y) s' → Each (Clash mayE AboveE x) s
    clash_over x y q over_nil h = tt
    clash_over x y q (over_cons {x = z} {y = w} r p) h =
        (λ k. allows.swaps x z y w q r (h.0 ((above x z y w q r).0 k)), clash_over x y q p h.1)

    pub orderly_over : {s : List E} {s' : List F} → Over R s s' → Orderly mayF AboveF s' → Orderly mayE AboveE s
    orderly_over over_nil o = tt
    orderly_over (over_cons {x = x} {y = y} q p) o = (clash_over x y q p o.0, orderly_over p o.1)

    low_over : {s : List E} {s' t' : List F} → Low AboveF s' t' → Over R s s' → (t : List E) × Low AboveE s t × Over R t t'
    low_over (low {e = y} {f = w} h) (over_cons {x = x} q (over_cons {x = z} {s = s} r p)) =
        (z ∷ x ∷ s, low ((above x z y w q r).1 h), over_cons r (over_cons q p))
    low_over (after {e = y} {f = w} h l) (over_cons {x = x} q (over_cons {x = z} {s = s} r p)) =
        let a = low_over {s = z ∷ s} l (over_cons r p) in
        (x ∷ a.0, after (λ k. h ((above x z y w q r).0 k)) a.1, over_cons q a.2)

    pub lows_over : {s : List E} {s' t' : List F} → Lows AboveF s' t' → Over R s s' → (t : List E) × Lows AboveE s t × Over R t t'
    lows_over {s} (calm c) p = (s, calm (calm_over p c), p)
    lows_over {s} (again l r) p =
        let a = low_over l p in
        let b = lows_over {s = a.0} r a.2 in
        (b.0, again a.1 b.1, b.2)

  -- ---- inserting

  pub fill_over : {b s : List E} {b' s' t' : List F} → Fill mayF b' s' t' → Over R b b' → Over R s s' → Each Has t'
      → (t : List E) × Fill mayE b s t × Over R t t'
  fill_over full o over_nil h = ([], full, over_nil)
  fill_over {b = b} (leave f) o (over_cons {x = x} q p) h =
      let r = fill_over {b = x ∷ b} f (over_cons q o) p h.1 in
      (x ∷ r.0, leave r.1, over_cons q r.2)
  fill_over (put {e = y} i f) o p h =
      let n = allows.inserts y h.0 o i in
      let r = fill_over f (over_cons n.2 o) p h.1 in
      (n.0 ∷ r.0, put n.1 r.1, over_cons n.2 r.2)
