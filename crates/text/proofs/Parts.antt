-- Laws of the parts of a text cut at a byte s: cut and glued it is the text again, glued and cut the parts again if s is in none of them; and what
-- is known of the bytes of a text is known of those of its parts. Assumes nothing.
use Prim.Native.Nat.{ℕ}
use mathlib.Core.Path.{◌≡◌, refl, sym, ◌∙◌, ap}
use mathlib.Core.Bool.{true, false}
use mathlib.Core.Logic.{◌⊎◌, inl, inr}
use mathlib.Core.List.{List, [], ◌∷◌, ◌++◌}
use lib.Dec.{eqb}
use lib.ListN.{take, drop}
use borrow.Author.Tests.{eqb-true, eqb-false, eq-eqb, ne_eqb}
use Rattle.laws.proofs.Cases.{either}
use Rattle.laws.proofs.Lists.{Each, Free, each_all, each_imp}
use Rattle.text.specs.Cut.{until, cut, on_first, glue}
use Rattle.text.proofs.Cuts.{cut_eq, more}

module _ (s : ℕ) where
  -- a text without s is one part
  pub cut_free : (p : List ℕ) → Free s p → cut s p ≡ p ∷ []
  unfolding cut
  cut_free [] h = refl
  cut_free (b ∷ p) h = rw (ne_eqb b s h.0, cut_free p h.1)

  -- what stands before an s, without one, is the first part, and what stands after it is cut by itself
  pub cut_part : (p t : List ℕ) → Free s p → cut s (p ++ s ∷ t) ≡ p ∷ cut s t
  unfolding cut
  cut_part [] t h = rw (eq-eqb s s refl)
  cut_part (b ∷ p) t h = rw (ne_eqb b s h.0, cut_part p t h.1)

  -- parts glued and cut
  pub cut_glue : (p : List ℕ) (ps : List (List ℕ)) → Each (Free s) (p ∷ ps) → cut s (glue s (p ∷ ps)) ≡ p ∷ ps
  unfolding glue
  cut_glue p [] h = cut_free p h.0
  cut_glue p (q ∷ ps) h = cut_part p (glue s (q ∷ ps)) h.0 ∙ ap (λ (fs : List (List ℕ)). p ∷ fs) (cut_glue q ps h.1)

  glue_first : (b : ℕ) (p : List ℕ) (ps : List (List ℕ)) → glue s ((b ∷ p) ∷ ps) ≡ b ∷ glue s (p ∷ ps)
  unfolding glue
  glue_first b p [] = refl
  glue_first b p (q ∷ ps) = refl

  glue_step : (b : ℕ) (l p : List ℕ) (ps : List (List ℕ)) → cut s l ≡ p ∷ ps → glue s (p ∷ ps) ≡ l → (eqb b s ≡ true) ⊎ (eqb b s ≡ false)
      → glue s (cut s (b ∷ l)) ≡ b ∷ l
  unfolding cut glue
  glue_step b l p ps e ih (inl h) = rw (h, e, ih, eqb-true b s h)
  glue_step b l p ps e ih (inr h) = rw (h, e) (glue_first b p ps ∙ rw ih)

  -- a text cut and glued
  pub glue_cut : (l : List ℕ) → glue s (cut s l) ≡ l
  unfolding cut glue
  glue_cut [] = refl
  glue_cut (b ∷ l) =
      let e = cut_eq s l in
      glue_step b l (take (until s l) l) (more s (drop (until s l) l)) e (ap (glue s) (sym e) ∙ glue_cut l) (either (eqb b s))

  module _ (P : ℕ → Type 0) where
    on_first_lem : (b : ℕ) (fs : List (List ℕ)) → P b → Each (Each P) fs → Each (Each P) (on_first b fs)
    on_first_lem b [] h k = ((h, tt), tt)
    on_first_lem b (p ∷ ps) h k = ((h, k.0), k.1)

    each_step : (b : ℕ) (l : List ℕ) → ((b ≡ s → ⊥) → P b) → Each (Each P) (cut s l) → (eqb b s ≡ true) ⊎ (eqb b s ≡ false) → Each (Each P) (cut s (b ∷ l))
    unfolding cut
    each_step b l h k (inl e) = rw e (tt, k)
    each_step b l h k (inr e) = rw e (on_first_lem b (cut s l) (h (eqb-false b s e)) k)

    -- what holds of each byte of a text that is not s holds of each byte of its parts
    pub each_part : (l : List ℕ) → Each (λ b. (b ≡ s → ⊥) → P b) l → Each (Each P) (cut s l)
    unfolding cut
    each_part [] h = (tt, tt)
    each_part (b ∷ l) h = each_step b l h.0 (each_part l h.1) (either (eqb b s))

  -- s is in no part
  pub parts_free : (l : List ℕ) → Each (Free s) (cut s l)
  parts_free l = each_part (λ b. b ≡ s → ⊥) l (each_all _ (λ b h. h) l)

  -- another byte that is not in the text is in no part
  pub parts_keep : (u : ℕ) (l : List ℕ) → Free u l → Each (Free u) (cut s l)
  parts_keep u l h = each_part (λ b. b ≡ u → ⊥) l (each_imp _ _ (λ b k _. k) l h)
