-- The lines of 0 for locations that no event touches, from a location on: what the mark, the value and the way of the location at hand say of the first.
-- Assumes nothing.
use Prim.Native.Nat.{ℕ, ◌+◌, ◌<◌, ◌≤◌}
use mathlib.Core.Bool.{Bool, true, false, ◌&&◌, not-not}
use mathlib.Core.List.{List}
use mathlib.Core.Path.{◌≡◌, ap, ◌∙◌}
use lib.Dec.{eqb}
use lib.ListN.{length, get_or, drop}
use Rattle.laws.proofs.Lists.{each_all}
use Rattle.event.specs.Answer.{answer, done}
use Rattle.event.specs.declared.Answer.{Answer}
use Rattle.record.specs.Form.{silent}
use Rattle.record.specs.declared.form.Form.{Form}
use Rattle.uses.specs.Bad.{first_bad}
use Rattle.uses.specs.Cover.{Start, is_idle, marked, starts}
use Rattle.uses.specs.Way.{is_used}
use Rattle.uses.proofs.Bad.{bad_go, bad_here, bad_end, bad_done}
use Rattle.uses.proofs.Starts.{starts_next, starts_end}

module _ (f : Form) (ways : List ℕ) (side : ℕ) where
  -- where zeros are silent there is none
  pub silent_idles : (line : ℕ) (is : List Start) → silent f 0 ≡ true → first_bad (is_idle f (is_used ways)) 21 side line is ≡ done
  silent_idles line is z = bad_done (is_idle f (is_used ways)) 21 side line is (each_all (λ i. is_idle f (is_used ways) i ≡ false) (λ i. rw z) is)

  -- the first from a location on, whose line, if it has one, has the number `line`
  abbrev pub idles : List Bool → List ℕ → ℕ → ℕ → Answer
  idles has cells line l = first_bad (is_idle f (is_used ways)) 21 side line (starts (λ j v. marked has j) l (drop l cells))

  module _ (has : List Bool) (cells : List ℕ) (line l : ℕ) where
    pub idle_end : length cells ≤ l → idles has cells line l ≡ done
    idle_end h = ap (first_bad (is_idle f (is_used ways)) 21 side line) (starts_end (λ j v. marked has j) cells l h) ∙ bad_end (is_idle f (is_used ways)) 21 side line

    module _ (inside : l < length cells) where
      pub no_line : marked has l ≡ false → idles has cells line l ≡ idles has cells line (l + 1)
      no_line h = rw (starts_next (λ j v. marked has j) cells l inside, h)

      module _ (z : silent f 0 ≡ false) (h : marked has l ≡ true) where
        pub idle_here : (eqb (get_or cells l 0) 0 && eqb (get_or ways l 0) 0) ≡ true → idles has cells line l ≡ answer 21 side line
        idle_here q =
            rw (starts_next (λ j v. marked has j) cells l inside, h)
            (bad_here (is_idle f (is_used ways)) 21 side line (l, get_or cells l 0) _ (rw (z, not-not (eqb (get_or ways l 0) 0)) q))

        pub not_idle : (eqb (get_or cells l 0) 0 && eqb (get_or ways l 0) 0) ≡ false → idles has cells line l ≡ idles has cells (line + 1) (l + 1)
        not_idle q =
            rw (starts_next (λ j v. marked has j) cells l inside, h)
            (bad_go (is_idle f (is_used ways)) 21 side line (l, get_or cells l 0) _ (rw (z, not-not (eqb (get_or ways l 0) 0)) q))
