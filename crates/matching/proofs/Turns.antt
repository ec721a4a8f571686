-- What a reading has come to after line 1, and after each line: a refusal, or how many entries there are. Assumes nothing.
use Prim.Native.Nat.{ℕ, suc, ◌+◌, ◌≤◌}
use mathlib.Core.Path.{◌≡◌, refl, sym}
use mathlib.Core.Bool.{true, false, false≢true}
use mathlib.Core.List.{List, ◌∷◌}
use native.Mathlib.Omega.{arith}
use borrow.Author.Tests.{eqb-false}
use lib.Dec.{eqb, leb}
use lib.ListN.{length}
use Rattle.std.specs.Prelude.{Option, Some, None, is_none}
use Rattle.event.specs.Answer.{answer, done}
use Rattle.event.specs.Limit.{event_limit}
use Rattle.event.specs.Told.{Refuses}
use Rattle.event.specs.declared.Answer.{Answer}
use Rattle.text.specs.Line.{line_len, line_at, split_from, said_in}
use Rattle.text.proofs.Walk.{part, next}
use Rattle.frame.specs.Reading.{head_fault}
use Rattle.frame.proofs.Heads.{head_stops, head_goes, head_length}
use Rattle.frame.proofs.Tries.{Tried, tried_go, tried_stop}
use Rattle.matching.specs.Entry.{header, entry_of}
use Rattle.matching.specs.Reading.{MatchingRead, matching_limit, entry_fault, matching_layout, entries_in, entries_of, refused, read_as, survey_of}
use Rattle.matching.specs.Survey.{counting, survey_lines}

-- line 1 refuses, or the lines after it are read
module _ (t : List ℕ) where
  pub head_refused : (a : Answer) → Refuses a → a ≡ head_fault 3 matching_limit header t → refused a ≡ survey_of t
  unfolding survey_of
  head_refused a r q = head_stops matching_layout 3 t refused q (eqb-false a.number 0 r) refl (read_as (length (entries_of t)))

  module _ (q : done ≡ head_fault 3 matching_limit header t) where
    pub head_passed : survey_of t ≡ survey_lines 0 (split_from t (line_len t + 1))
    unfolding survey_of entries_of
    head_passed =
        let z : 0 + length (entries_of t) ≡ length (entries_of t) = omega arith in
        rw (← z) (head_goes matching_layout 3 t refused q refl (counting 0))

    pub line_two_in : 2 ≤ line_len t + 1
    line_two_in = omega (arith, head_length matching_layout 3 t refused q refl)

-- where a line ends lies within the text
pub line_in : (t : List ℕ) (at to : ℕ) → line_at t at ≡ Some to → (at ≤ to) × (to + 1 ≤ length t)
line_in t at to e = let n = next t at to e in (n.rises, omega (arith, n.within))

-- a line is refused
pub line_refused : {whole : MatchingRead} {t : List ℕ} {k at n : ℕ} {out : List (List ℕ) → MatchingRead} → Tried matching_layout refused 3 whole t k n out at
    → {to : ℕ} → line_at t at ≡ Some to → (x : ℕ) → eqb x 0 ≡ false → matching_layout.fault n (part t at to) ≡ x → (b : Answer) → b ≡ answer x 3 k
    → Refuses b × (refused b ≡ whole)
line_refused w e x z f b q = (rw q z, tried_stop w refl e q z f)

-- it is no entry, or one too many
pub fault_none : (n : ℕ) (r : Option ℕ) → is_none r ≡ true → entry_fault n r ≡ 2
fault_none n None h = refl
fault_none n (Some e) h = absurd (false≢true h)

pub fault_many : (n : ℕ) (r : Option ℕ) → is_none r ≡ false → leb event_limit n ≡ true → entry_fault n r ≡ 3
fault_many n None h k = absurd (false≢true (sym h))
fault_many n (Some e) h k = rw k

-- it is an entry, which is not refused
module _ (n : ℕ) {whole : MatchingRead} {t : List ℕ} {at : ℕ} (w : Tried matching_layout refused 3 whole t (n + 2) n (counting n) at) where
  pub line_read : {to : ℕ} → line_at t at ≡ Some to → is_none (entry_of (part t at to)) ≡ false → leb event_limit n ≡ false
      → Tried matching_layout refused 3 whole t (n + 1 + 2) (n + 1) (counting (n + 1)) (to + 1)
  unfolding said_in
  line_read {to} h s f = on (entry_of (part t at to)) refl s where
    on : (r : Option ℕ) → entry_of (part t at to) ≡ r → is_none r ≡ false
        → Tried matching_layout refused 3 whole t (n + 1 + 2) (n + 1) (counting (n + 1)) (to + 1)
    on None q s = absurd (false≢true (sym s))
    on (Some e) q s =
        tried_go w h (omega arith) (rw (q, f)) refl
        (λ m ls. let z : n + suc (length (entries_in (m ∷ ls))) ≡ n + 1 + length (entries_in (m ∷ ls)) = omega arith in rw (q, z))
