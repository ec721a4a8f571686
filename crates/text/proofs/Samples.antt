-- Small texts at which the definitions are computed, for a reader to compare. Assumes nothing.
use Prim.Native.Nat.{ℕ}
use mathlib.Core.Path.{◌≡◌, refl}
use mathlib.Core.Bool.{true, false}
use mathlib.Core.List.{List, [], ◌∷◌}
use Rattle.text.specs.Cut.{until, cut, cut_from}
use Rattle.text.specs.Field.{field, field_at, fields, fields_from}
use Rattle.text.specs.Line.{split}
use Rattle.text.specs.Number.{all_digits, value_on, digits_on, number_of, dec, decimal}
use Rattle.text.specs.Take.{taken, take_number, ends_at}
use Rattle.text.specs.Word.{bytes}
use Rattle.std.specs.Prelude.{Some, None}

abbrev line : List ℕ
line = bytes "a\t255"

-- two lines, and nothing after the last LF
lines : split (bytes "a\nbc\n") ≡ bytes "a" ∷ bytes "bc" ∷ [] ∷ []
unfolding cut
lines = refl

-- the empty line has one field, and a TAB alone parts two
one_field : fields [] ≡ [] ∷ []
unfolding cut
one_field = refl

two_fields : fields (bytes "\t") ≡ [] ∷ [] ∷ []
unfolding cut
two_fields = refl

-- from the place after the TAB
second : (field_at line 2 ≡ Some (field 2 5)) × (fields_from line 2 ≡ bytes "255" ∷ [])
unfolding field_at until cut cut_from
second = (refl, refl)

-- at the line's end, 5, an empty field may start, as after a last TAB; the place after the last field is 6, where none does
third : (field_at line 5 ≡ Some (field 5 5)) × (field_at line 6 ≡ None)
unfolding field_at until
third = (refl, refl)

-- 0 is a number, 01 and the empty word are none, and 255 is one up to the limit
numbers : (number_of 255 (bytes "0") ≡ Some 0) × (number_of 255 (bytes "01") ≡ None) × (number_of 255 [] ≡ None)
unfolding number_of digits_on all_digits value_on
numbers = (refl, refl, refl)

limit : (number_of 255 (bytes "255") ≡ Some 255) × (number_of 254 (bytes "255") ≡ None)
unfolding number_of digits_on all_digits value_on
limit = (refl, refl)

-- a number is taken, with the place where the line has ended; a word is not
taking : (take_number line 2 255 ≡ Some (taken 255 6)) × (take_number line 0 255 ≡ None) × (ends_at line 6 ≡ true) × (ends_at line 5 ≡ false)
unfolding take_number field_at until number_of digits_on all_digits value_on ends_at cut_from cut
taking = (refl, refl, refl, refl)

-- what is written of 0 and of 205
written : (decimal 0 ≡ bytes "0") × (decimal 205 ≡ bytes "205")
unfolding decimal dec
written = (refl, refl)
