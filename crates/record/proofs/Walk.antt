-- Laws of a walk over the two fields of an `init` line: what the two say is what the fields of the line say, and a line that lacks one is refused.
-- Assumes nothing.
use Prim.Native.Nat.{ℕ, ◌+◌, ◌-◌}
use mathlib.Core.Path.{◌≡◌, refl}
use mathlib.Core.List.{List}
use lib.ListN.{take, drop}
use Rattle.std.specs.Prelude.{Option, Some, None, option_map}
use Rattle.event.specs.Limit.{last_place}
use Rattle.kinds.specs.Kind.{last_value}
use Rattle.text.specs.Field.{field_at, fields_from}
use Rattle.text.specs.Number.{number_of, on_number}
use Rattle.text.specs.Take.{taken}
use Rattle.text.specs.declared.field.Field.{Field}
use Rattle.text.specs.declared.take.Taken.{Taken}
use Rattle.text.proofs.Fields.{field_step, line_end}
use Rattle.record.specs.Part.{on_part, init_of}
use Rattle.record.specs.Record.{number_if, init_rest}
use Rattle.record.specs.declared.Record.{Record}

-- a number that was read, or none
numbered : (v : Option ℕ) (e : ℕ) (K : Taken → Option Record) (L : ℕ → Option Record) → ((n : ℕ) → K (taken n e) ≡ L n)
    → on_part (option_map (λ n. taken n e) v) K ≡ on_number None v L
numbered (Some n) e K L h = h n
numbered None e K L h = refl

nothing : (v : Option ℕ) (L : ℕ → Option Record) → ((n : ℕ) → L n ≡ None) → on_number None v L ≡ None
nothing (Some n) L h = h n
nothing None L h = refl

module _ (l : List ℕ) where
  abbrev word : Field → List ℕ
  word f = take (f.to - f.from) (drop f.from l)

  module _ (at : ℕ) where
    pub no_place : field_at l at ≡ None → init_rest (fields_from l at) ≡ None
    unfolding init_rest number_if
    no_place h = rw (line_end l at h)

    module _ (p : Field) (h : field_at l at ≡ Some p) where
      pub no_value : field_at l (p.to + 1) ≡ None → init_rest (fields_from l at) ≡ None
      unfolding init_rest number_if
      no_value k = rw (field_step l at p h, line_end l (p.to + 1) k) (nothing (number_of last_place (word p)) _ (λ n. refl))

      pub both_found : (v : Field) → field_at l (p.to + 1) ≡ Some v → init_of l p v ≡ init_rest (fields_from l at)
      unfolding init_of init_rest number_if
      both_found v k =
          rw (field_step l at p h, field_step l (p.to + 1) v k)
          (numbered (number_of last_place (word p)) (p.to + 1) _ _ (λ n. numbered (number_of last_value (word v)) (v.to + 1) _ _ (λ m. refl)))
