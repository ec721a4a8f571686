-- An entry's line by the field or the number that is taken from it, as the reader takes them. Assumes nothing.
use Prim.Native.Nat.{ℕ, ◌+◌}
use mathlib.Core.Path.{◌≡◌, refl, sym, ◌∙◌}
use mathlib.Core.Bool.{cond}
use mathlib.Core.List.{List}
use lib.Dec.{eqb}
use Rattle.std.specs.Prelude.{Option, Some, None, option_and_then}
use Rattle.laws.proofs.Cases.{cases, either}
use Rattle.event.specs.Limit.{event_limit}
use Rattle.text.specs.Field.{field_at, fields_from}
use Rattle.text.specs.Take.{take_number, ends_at}
use Rattle.text.specs.Word.{same_bytes}
use Rattle.text.specs.declared.field.Field.{Field}
use Rattle.text.specs.declared.take.Taken.{Taken}
use Rattle.text.proofs.Fields.{fields_start, line_end, field_step}
use Rattle.text.proofs.Takes.{took, bad, ended, not_ended}
use Rattle.text.proofs.Walk.{part}
use Rattle.matching.specs.Entry.{keep_word, gone_word, keep_rest, gone_rest, entry_of}

-- a target number that is not 0, and nothing more
abbrev pub keep_with : List ℕ → Taken → Option ℕ
keep_with l t = cond (ends_at l t.next) (cond (eqb t.value 0) None (Some t.value)) None

pub keep_by : (l : List ℕ) (at : ℕ) → keep_rest (fields_from l at) ≡ option_and_then (keep_with l) (take_number l at event_limit)
unfolding keep_rest
keep_by l at = on (take_number l at event_limit) refl where
  on : (o : Option Taken) → take_number l at event_limit ≡ o → keep_rest (fields_from l at) ≡ option_and_then (keep_with l) o
  on None q = bad _ _ _ _ _ q
  on (Some t) q =
      took l at event_limit t q _ _
      ∙ cases (either (ends_at l t.next)) (λ e. rw e (ended _ l t.next _ e)) (λ e. rw e (not_ended _ l t.next _ e))

pub gone_by : (l : List ℕ) (at : ℕ) → gone_rest (fields_from l at) ≡ cond (ends_at l at) (Some 0) None
unfolding gone_rest
gone_by l at = cases (either (ends_at l at)) (λ e. rw e (ended _ l at _ e)) (λ e. rw e (not_ended _ l at _ e))

-- the word, and what comes after it
abbrev pub line_with : List ℕ → Field → Option ℕ
line_with l f =
    cond (same_bytes (part l f.from f.to) gone_word) (gone_rest (fields_from l (f.to + 1)))
    (cond (same_bytes (part l f.from f.to) keep_word) (keep_rest (fields_from l (f.to + 1))) None)

pub line_by : (l : List ℕ) → entry_of l ≡ option_and_then (line_with l) (field_at l 0)
unfolding entry_of
line_by l = on (field_at l 0) refl where
  on : (o : Option Field) → field_at l 0 ≡ o → entry_of l ≡ option_and_then (line_with l) o
  on None q = rw (sym (fields_start l) ∙ line_end l 0 q)
  on (Some f) q = rw (sym (fields_start l) ∙ field_step l 0 f q)
