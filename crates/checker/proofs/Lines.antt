-- The k-th line that is counted, by a place of the text and one line at a time. Assumes nothing.
use Prim.Native.Nat.{ℕ, ◌+◌, ◌-◌, ◌≤◌}
use mathlib.Core.Path.{◌≡◌, refl, sym, ◌∙◌, ap}
use mathlib.Core.Bool.{Bool, true, false, cond, ◌&&◌, ◌||◌, false≢true}
use mathlib.Core.List.{List, [], ◌∷◌}
use native.Mathlib.Omega.{arith}
use lib.Dec.{eqb}
use lib.ListN.{length}
use borrow.Author.Tests.{eqb-false}
use Rattle.std.specs.Prelude.{Option, Some, None}
use Rattle.text.specs.Line.{line_at, split, split_from}
use Rattle.text.proofs.Cuts.{from_start}
use Rattle.text.proofs.Walk.{part, part_length, Next, next, last, walk_line}
use Rattle.trace.specs.Reading.{form_of}
use Rattle.record.specs.declared.form.Form.{Form}
use Rattle.event.specs.Answer.{answer}
use Rattle.laws.specs.Has.{has}
use Rattle.checker.specs.Line.{
  Spans,
  Standing,
  counted,
  event_faults,
  fault_side,
  fault_text,
  line_faults,
  line_of,
  nothing,
  nth_line,
  offending,
  span,
  standing,
}

-- a part of a text, or nothing, that is what is sought
spans : (text : List ℕ) (at to : ℕ) {s : Standing} → at ≤ to → to ≤ length text → s ≡ record { line = part text at to; place = span at to }
    → Spans text s.line (span at to) × (span at to ≡ s.place)
spans text at to r w e = (record { rises = r; within = w; is = ap (λ (x : Standing). x.line) (sym e) }, ap (λ (x : Standing). x.place) (sym e))

-- there is no line 0
pub none_zero : (f : Form) (only : Bool) (ss : List Standing) → nth_line f only 0 ss ≡ nothing
unfolding nth_line
none_zero f only [] = refl
none_zero f only (s ∷ ss) = rw (none_zero f only ss) (same_both (counted f only s.line))
  where
    same_both : (b : Bool) → cond b (cond false s nothing) nothing ≡ nothing
    same_both true = refl
    same_both false = refl

pub none_left : (f : Form) (only : Bool) (k at : ℕ) → nth_line f only k (standing at []) ≡ nothing
unfolding nth_line standing
none_left f only k at = refl

-- more than one is left to count
pub left_some : (b : Bool) (k : ℕ) → 1 ≤ k → (b && eqb k 1) ≡ false → 1 ≤ cond b (k - 1) k
left_some true k p h = omega (arith, eqb-false k 1 h)
left_some false k p h = p

-- the line is the one that is sought
pub line_found : (f : Form) (only : Bool) (k at e : ℕ) (l : List ℕ) (ls : List (List ℕ)) (b : Bool) → e ≡ at + length l → b ≡ counted f only l
    → (b && eqb k 1) ≡ true → nth_line f only k (standing at (l ∷ ls)) ≡ record { line = l; place = span at e }
unfolding nth_line standing
line_found f only k at e l ls true s c h = rw (← c, h, s)
line_found f only k at e l ls false s c h = absurd (false≢true h)

-- it is not
pub line_passed : (f : Form) (only : Bool) (k at e : ℕ) (l : List ℕ) (ls : List (List ℕ)) (b : Bool) → e ≡ at + length l → b ≡ counted f only l
    → (b && eqb k 1) ≡ false → nth_line f only k (standing at (l ∷ ls)) ≡ nth_line f only (cond b (k - 1) k) (standing (e + 1) ls)
unfolding nth_line standing
line_passed f only k at e l ls true s c h = rw (← c, h, s)
line_passed f only k at e l ls false s c h = rw (← c, s)

-- the line that is sought, of which so many are left to count, among those from a place on
abbrev pub sought : List ℕ → Bool → ℕ → ℕ → List (List ℕ) → Standing
sought text only left at ls = nth_line (form_of text) only left (standing at ls)

pub none_sought : (text : List ℕ) (only : Bool)
    → Spans text (sought text only 0 0 (split text)).line (span 0 0) × (span 0 0 ≡ (sought text only 0 0 (split text)).place)
none_sought text only = spans text 0 0 (omega arith) (omega arith) (none_zero (form_of text) only (standing 0 (split text)))

module _ (text : List ℕ) (only : Bool) (k : ℕ) where
  pub record Sought (at left : ℕ) : Type 0 where
    pub within : at ≤ length text
    pub some : 1 ≤ left
    pub same : sought text only k 0 (split text) ≡ sought text only left at (split_from text at)

  pub sought_start : 1 ≤ k → Sought 0 k
  sought_start h = record { within = omega arith; some = h; same = rw (from_start 10 text) }

  module _ (at left : ℕ) (w : Sought at left) where
    -- a line stands there, counted or not, or what stands after the last LF does
    module _ {line : Option ℕ} {form : Form} {hit ends : Bool} (at_line : line ≡ line_at text at) (f : form ≡ form_of text) where
      module _ {to : ℕ} (is : line ≡ Some to) (h : hit ≡ counted form only (part text at to)) (e : ends ≡ (hit && eqb left 1)) where
        here : line_at text at ≡ Some to
        here = sym at_line ∙ is

        there : Next text at to
        there = next text at to here

        ends_at : to ≡ at + length (part text at to)
        ends_at = omega (arith, there, part_length text at to (omega (arith, there)))

        told : hit ≡ counted (form_of text) only (part text at to)
        told = rw (← f) h

        pub sought_found : ends ≡ true
            → Spans text (sought text only k 0 (split text)).line (span at to) × (span at to ≡ (sought text only k 0 (split text)).place)
        sought_found p =
            spans text at to (omega (arith, there)) (omega (arith, there))
            (walk_line (sought text only left at) text at w.same (λ ls. record { line = part text at to; place = span at to }) here
            (λ m ls. line_found _ _ _ _ _ _ _ _ ends_at told (sym e ∙ p)))

        pub sought_passed : ends ≡ false → Sought (to + 1) (cond hit (left - 1) left)
        sought_passed p = record {
          within = omega (arith, there);
          some = left_some hit left w.some (sym e ∙ p);
          same =
              walk_line (sought text only left at) text at w.same (sought text only (cond hit (left - 1) left) (to + 1)) here
              (λ m ls. line_passed _ _ _ _ _ _ _ _ ends_at told (sym e ∙ p));
        }

      module _ (is : line ≡ None) (h : hit ≡ counted form only (part text at (length text))) (e : ends ≡ (hit && eqb left 1)) where
        rest : sought text only k 0 (split text) ≡ sought text only left at (part text at (length text) ∷ [])
        rest = w.same ∙ rw (last text at w.within (sym at_line ∙ is))

        end_at : length text ≡ at + length (part text at (length text))
        end_at = omega (arith, w.within, part_length text at (length text) (omega arith))

        last_told : hit ≡ counted (form_of text) only (part text at (length text))
        last_told = rw (← f) h

        pub sought_last : ends ≡ true
            → Spans text (sought text only k 0 (split text)).line (span at (length text))
            × (span at (length text) ≡ (sought text only k 0 (split text)).place)
        sought_last p = spans text at (length text) w.within (omega arith) (rest ∙ line_found _ _ _ _ _ _ [] _ end_at last_told (sym e ∙ p))

        pub sought_none : ends ≡ false
            → Spans text (sought text only k 0 (split text)).line (span 0 0) × (span 0 0 ≡ (sought text only k 0 (split text)).place)
        sought_none p =
            spans text 0 0 (omega arith) (omega arith)
            (rest ∙ (line_passed _ _ _ _ _ _ [] _ end_at last_told (sym e ∙ p) ∙ none_left _ _ _ _))

-- Document 02, C-16: a list's refusal, with side 4, has no line; the part is the empty one of the source
pub list_has_none : (source target : List ℕ) (n p : ℕ) → (offending source target (answer n 4 p) ≡ nothing) × (fault_text source target (answer n 4 p) ≡ source)
unfolding offending fault_side
list_has_none source target n p = none_at (has n line_faults || has n event_faults)
  where
    none_at : (b : Bool)
        → (cond (eqb (cond b 4 0) 1) (line_of n p source) (cond (eqb (cond b 4 0) 2) (line_of n p target) nothing) ≡ nothing)
        × (cond (eqb (cond b 4 0) 2) target source ≡ source)
    none_at true = (refl, refl)
    none_at false = (refl, refl)
