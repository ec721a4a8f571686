-- Lines tried one by one in a walk: a line is refused, or the walk goes on; and what stands after the last LF. Assumes nothing.
use Prim.Native.Nat.{ℕ, ◌+◌, ◌≤◌, ◌<◌}
use mathlib.Core.Path.{◌≡◌, refl, sym, ◌∙◌, ap}
use mathlib.Core.Bool.{false}
use mathlib.Core.List.{List, [], ◌∷◌}
use native.Mathlib.Omega.{arith}
use lib.Dec.{eqb}
use lib.ListN.{length}
use borrow.Author.Tests.{eqb-true}
use Rattle.std.specs.Prelude.{Some, None}
use Rattle.laws.proofs.Cases.{cases, either}
use Rattle.event.specs.Answer.{answer}
use Rattle.event.specs.declared.Answer.{Answer}
use Rattle.text.specs.Line.{line_at, split_from}
use Rattle.text.proofs.Walk.{part, next, walk_line, walk_open, walk_end}
use Rattle.frame.specs.Reading.{Layout, lines_fault, tried}

-- the lines come to the same by what else is known, if they are refused alike and else the same is made of them
pub tried_same : {S R : Type 0} (T : Layout S) (refused : Answer → R) (side k : ℕ) (s s' : S) (out out' : List (List ℕ) → R) (ls : List (List ℕ))
    → lines_fault T side k s ls ≡ lines_fault T side k s' ls → ((lines_fault T side k s' ls).number ≡ 0 → out ls ≡ out' ls)
    → tried T refused side k s out ls ≡ tried T refused side k s' out' ls
unfolding tried
tried_same T refused side k s s' out out' ls q h =
    let a = lines_fault T side k s' ls in
    rw q (cases (either (eqb a.number 0)) (λ e. rw e (h (eqb-true a.number 0 e))) (λ e. rw e))

-- what the whole comes to is what the lines from a place on come to, of which the first is line k; there are no more lines than bytes
pub record Tried {S R : Type 0} (T : Layout S) (refused : Answer → R) (side : ℕ) (whole : R) (t : List ℕ) (k : ℕ) (s : S) (out : List (List ℕ) → R)
    (at : ℕ) : Type 0 where
  pub lined : k ≤ at
  pub same : whole ≡ tried T refused side k s out (split_from t at)

module _ {S R : Type 0} {T : Layout S} {refused : Answer → R} {side : ℕ} {whole : R} {t : List ℕ} {k : ℕ} {s : S} {out : List (List ℕ) → R} {at : ℕ}
    (w : Tried T refused side whole t k s out at) where
  -- a line, which is not refused
  pub tried_go : {to : ℕ} → line_at t at ≡ Some to → {k' : ℕ} {s' : S} {out' : List (List ℕ) → R} → k' ≡ k + 1 → T.fault s (part t at to) ≡ 0
      → T.next s (part t at to) ≡ s' → ((m : List ℕ) (ls : List (List ℕ)) → out (part t at to ∷ m ∷ ls) ≡ out' (m ∷ ls))
      → Tried T refused side whole t k' s' out' (to + 1)
  unfolding tried lines_fault
  tried_go {to} e {k'} {s'} {out'} q f n o = record {
    lined = omega (arith, w.lined, next t at to e);
    same = walk_line (tried T refused side k s out) t at w.same (tried T refused side k' s' out') e (λ m ls. rw (f, n, q, o m ls));
  }

  -- what is handed back where a line is refused, and where something stands after the last LF
  module _ {r : R} {b : Answer} (p : r ≡ refused b) where
    pub tried_stop : {to : ℕ} → line_at t at ≡ Some to → {x : ℕ} → b ≡ answer x side k → eqb x 0 ≡ false → T.fault s (part t at to) ≡ x → r ≡ whole
    unfolding tried lines_fault
    tried_stop e {x} q z f =
        p ∙ (ap refused q ∙ sym (walk_line (tried T refused side k s out) t at w.same (λ ls. refused (answer x side k)) e (λ m ls. rw (f, z, z))))

    pub tried_open : line_at t at ≡ None → at < length t → b ≡ answer 2 side k → r ≡ whole
    unfolding tried lines_fault
    tried_open e o q = p ∙ (ap refused q ∙ sym (walk_open (tried T refused side k s out) t at w.same e o (λ c l. refl)))

  -- nothing stands there
  pub tried_end : length t ≤ at → {r : R} → out [] ≡ r → out ([] ∷ []) ≡ r → whole ≡ r
  unfolding tried lines_fault
  tried_end o h i = walk_end (tried T refused side k s out) t at w.same o h i
