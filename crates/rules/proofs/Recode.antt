-- Code lines never affect a verdict: neither what the rules see of an event nor whether two events are the same asks them. Assumes nothing.
use mathlib.Core.Path.{◌≡◌, refl, ap}
use mathlib.Core.Bool.{Bool, not}
use mathlib.Core.List.{List, [], ◌∷◌, map}
use Prim.Native.Nat.{ℕ, zero, suc}
use lib.ListN.{length, get_or}
use Rattle.event.specs.Room.{no_event}
use Rattle.event.specs.declared.Event.{Event}
use Rattle.rules.specs.View.{view_in, same}
use Rattle.rules.specs.Fault.{Fate, Item, item, fate, fate_of, gone, stays, unlike}
use Rattle.rules.specs.Verdict.{items, count_answer, target_item, source_answer, target_answer, verdict_in}
use Rattle.rules.specs.Recode.{recode, Recoded}

module _ (regs : List Bool) (c d : Event → ℕ) where
  many : (s : List Event) → length (map (recode c) s) ≡ length s
  many [] = refl
  many (e ∷ s) = ap suc (many s)

  seen : (s : List Event) (ns : List ℕ) → items (view_in regs) (map (recode c) s) ns ≡ items (view_in regs) s ns
  seen [] ns = refl
  seen (e ∷ s) [] = refl
  seen (e ∷ s) (n ∷ ns) = ap (λ (l : List Item). item (view_in regs e) (fate n) ∷ l) (seen s ns)

  same_at : (e : Event) (t : List Event) (i : ℕ) → same (recode c e) (get_or (map (recode d) t) i no_event) ≡ same e (get_or t i no_event)
  same_at e [] i = refl
  same_at e (f ∷ t) zero = refl
  same_at e (f ∷ t) (suc i) = same_at e t i

  unlike_at : (e : Event) (t : List Event) (f : Fate) → unlike (map (recode d) t) (recode c e) f ≡ unlike t e f
  unlike_at e t gone = refl
  unlike_at e t (stays w zero) = refl
  unlike_at e t (stays w (suc i)) = ap not (same_at e t i)

  source : (t : List Event) (i : ℕ) (b : List Item) (s : List Event) (ns : List ℕ)
      → source_answer (view_in regs) (map (recode d) t) i b (map (recode c) s) ns ≡ source_answer (view_in regs) t i b s ns
  unfolding source_answer
  source t i b [] ns = refl
  source t i b (e ∷ s) [] = refl
  source t i b (e ∷ s) (n ∷ ns) =
      let x = item (view_in regs e) (fate n) in
      rw (unlike_at e t (fate_of x), seen s ns, source t (suc i) (x ∷ b) s ns)

  target : (ns : List ℕ) (k : ℕ) (b : List Item) (t : List Event) → target_answer (view_in regs) ns k b (map (recode c) t) ≡ target_answer (view_in regs) ns k b t
  unfolding target_answer
  target ns k b [] = refl
  target ns k b (e ∷ t) = rw (target ns (suc k) (target_item (view_in regs) ns k e ∷ b) t)

pub recoded : Recoded
unfolding verdict_in count_answer
recoded regs c d m n s t ns = rw (many regs c d s, many regs d d t, source regs c d t 1 [] s ns, target regs d d ns 1 [] t)
