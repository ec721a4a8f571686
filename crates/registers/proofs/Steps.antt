-- A register's line by the field or the number that is taken from it, as the reader takes them. Assumes nothing.
use Prim.Native.Nat.{ℕ, ◌+◌}
use mathlib.Core.Path.{◌≡◌, refl, sym, ◌∙◌}
use mathlib.Core.Bool.{Bool, cond}
use mathlib.Core.List.{List}
use lib.Dec.{eqb}
use Rattle.std.specs.Prelude.{Option, Some, None, option_and_then}
use Rattle.laws.proofs.Cases.{cases, either}
use Rattle.event.specs.Limit.{last_place}
use Rattle.text.specs.Field.{field_at, fields_from}
use Rattle.text.specs.Take.{take_number, ends_at}
use Rattle.text.specs.Word.{same_bytes}
use Rattle.text.specs.declared.field.Field.{Field}
use Rattle.text.specs.declared.take.Taken.{Taken}
use Rattle.text.proofs.Fields.{fields_start, line_end, field_step}
use Rattle.text.proofs.Takes.{took, bad, ended, not_ended}
use Rattle.text.proofs.Walk.{part}
use Rattle.registers.specs.Reg.{reg_word, reg_rest, group_rest, after_word, reg_of}
use Rattle.registers.specs.declared.reg.Register.{Register}

-- a location, and nothing more
abbrev pub rest_with : ℕ → List ℕ → Taken → Option Register
rest_with g l t = cond (ends_at l t.next) (Some (record { group = g; location = t.value })) None

pub rest_by : (g : ℕ) (l : List ℕ) (at : ℕ) → reg_rest g (fields_from l at) ≡ option_and_then (rest_with g l) (take_number l at last_place)
unfolding reg_rest
rest_by g l at = on (take_number l at last_place) refl where
  on : (o : Option Taken) → take_number l at last_place ≡ o → reg_rest g (fields_from l at) ≡ option_and_then (rest_with g l) o
  on None q = bad _ _ _ _ _ q
  on (Some t) q =
      took l at last_place t q _ _
      ∙ cases (either (ends_at l t.next)) (λ e. rw e (ended _ l t.next _ e)) (λ e. rw e (not_ended _ l t.next _ e))

-- a group that is not 0, and what comes after it
abbrev pub group_with : List ℕ → Taken → Option Register
group_with l t = cond (eqb t.value 0) None (reg_rest t.value (fields_from l t.next))

pub group_by : (l : List ℕ) (at : ℕ) → group_rest (fields_from l at) ≡ option_and_then (group_with l) (take_number l at 2)
unfolding group_rest
group_by l at = on (take_number l at 2) refl where
  on : (o : Option Taken) → take_number l at 2 ≡ o → group_rest (fields_from l at) ≡ option_and_then (group_with l) o
  on None q = bad _ _ _ _ _ q
  on (Some t) q = took l at 2 t q _ _

-- the word, and what comes after it
abbrev pub line_with : Bool → List ℕ → Field → Option Register
line_with grouped l f = cond (same_bytes (part l f.from f.to) reg_word) (after_word grouped (fields_from l (f.to + 1))) None

pub line_by : (grouped : Bool) (l : List ℕ) → reg_of grouped l ≡ option_and_then (line_with grouped l) (field_at l 0)
unfolding reg_of
line_by grouped l = on (field_at l 0) refl where
  on : (o : Option Field) → field_at l 0 ≡ o → reg_of grouped l ≡ option_and_then (line_with grouped l) o
  on None q = rw (sym (fields_start l) ∙ line_end l 0 q)
  on (Some f) q = rw (sym (fields_start l) ∙ field_step l 0 f q)
