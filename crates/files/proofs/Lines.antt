-- Laws of lines put one behind the other into a room, and of how long a line of a run is. Assumes nothing.
use Prim.Native.Nat.{ℕ, zero, suc, ◌+◌, ◌-◌, ◌^◌, ◌≤◌, ◌<◌, min}
use mathlib.Core.Bool.{Bool, true, false, cond}
use mathlib.Core.Path.{◌≡◌, refl, sym, ◌∙◌, ap}
use mathlib.Core.List.{List, [], ◌∷◌, ◌++◌}
use native.Mathlib.Omega.{arith}
use lib.ListN.{length, take, drop, length-append, drop_of_length-le}
use borrow.Rule.Slice.PartMut.{put_mid}
use lib.Seq.{take_all, length-take-le, drop-drop}
use Rattle.std.proofs.lemmas.List.{append_assoc, append-nil}
use Rattle.laws.proofs.Cases.{cases, side}
use Rattle.event.specs.Room.{event_at}
use Rattle.event.specs.declared.Event.{Event}
use Rattle.kinds.specs.Kind.{lawful}
use Rattle.record.specs.Layout.{event_line}
use Rattle.record.specs.declared.form.Form.TheVariants.{One}
use Rattle.record.proofs.Prints.{event_length}
use Rattle.text.specs.Number.{decimal}
use Rattle.text.specs.Word.{bytes}
use Rattle.text.proofs.Decimals.{length_wide}
use Rattle.writer.specs.Put.{bare, bare_line}
use Rattle.changes.specs.declared.Step.TheVariants.{Remove, Swap, Insert}
use Rattle.files.specs.Lines.{Puts, count_line, event_field, step_line, pushed}

-- as much as fits of two parts, one behind the other
take_both : (k : ℕ) (a b : List ℕ) → take k a ++ take (k - length (take k a)) b ≡ take k (a ++ b)
take_both zero a b = refl
take_both (suc k) [] b = let z : suc k - 0 ≡ suc k = omega arith in rw z refl
take_both (suc k) (x ∷ a) b =
    let z : suc k - suc (length (take k a)) ≡ k - length (take k a) = omega arith in
    rw z (ap (λ (l : List ℕ). x ∷ l) (take_both k a b))

-- two parts put one behind the other
pushed_both : (n : ℕ) (held a b : List ℕ) → pushed n (pushed n held a) b ≡ pushed n held (a ++ b)
pushed_both n held a b =
    let k : ℕ = n - length held in
    let left : n - length (held ++ take k a) ≡ k - length (take k a) = omega (arith, length-append held (take k a)) in
    rw left (append_assoc held (take k a) (take (k - length (take k a)) b) ∙ ap (λ (l : List ℕ). held ++ l) (take_both k a b))

-- what is held after two pushes
pub then : (n : ℕ) (held a b : List ℕ) {now more : List ℕ} → now ≡ pushed n held a → more ≡ pushed n now b → more ≡ pushed n held (a ++ b)
then n held a b p q = q ∙ (ap (λ (l : List ℕ). pushed n l b) p ∙ pushed_both n held a b)

-- the last field of a line with a number
pub event_named : (room : List ℕ) (n : ℕ) → (n ≡ 0 → ⊥) → event_field room n ≡ bytes "\t" ++ bare_line (event_at room (n - 1))
event_named room zero h = absurd (h refl)
event_named room (suc i) h = let z : suc i - 1 ≡ i = omega arith in rw z refl

-- the line of an event is short
short_if : (b : Bool) (line : List ℕ) → (b ≡ true → length line ≤ 55) → length (cond b (line ++ 10 ∷ []) []) ≤ 56
short_if true line h = omega (arith, length-append line (10 ∷ []), h refl)
short_if false line h = omega arith

pub bare_short : (e : Event) → length (bare_line e) ≤ 56
bare_short e =
    short_if (lawful (bare e)) (event_line One (bare e))
    (λ (l : lawful (bare e) ≡ true). event_length One (bare e) (record { law = l; kept = refl }))

-- a line that fits into an empty room is all that is put there
pub pushed_whole : (n : ℕ) (line : List ℕ) → length line ≤ n → pushed n [] line ≡ line
pushed_whole n line h = let z : n - 0 ≡ n = omega arith in rw z (take_all n line h)

-- the line of how many steps there are is short
pub count_short : (n : ℕ) → n < 2 ^ 64 → length (count_line n) ≤ 64
count_short n h = omega (arith, length-append (decimal n) (bytes "\n"), length_wide n h)

-- the line of a step, whose numbers have 20 digits at most, is short
event_short : (room : List ℕ) (n : ℕ) → length (event_field room n) ≤ 57
event_short room zero = omega arith
event_short room (suc i) = omega (arith, bare_short (event_at room i))

module _ (s t : List ℕ) (i : ℕ) (h : length (decimal i) ≤ 20) where
  pub remove_short : (k : ℕ) → length (decimal k) ≤ 20 → length (step_line (Remove i k) s t) ≤ 128
  remove_short k q =
      omega (
        arith,
        length-append (decimal i ++ bytes "\t" ++ decimal k) (event_field s k),
        length-append (decimal i ++ bytes "\t") (decimal k),
        length-append (decimal i) (bytes "\t"),
        h,
        q,
        event_short s k,
      )

  pub swap_short : length (step_line (Swap i) s t) ≤ 128
  swap_short = omega (arith, length-append (decimal i) (bytes "\n"), h)

  pub insert_short : length (step_line (Insert i) s t) ≤ 128
  insert_short = omega (arith, length-append (decimal i) (event_field t i), h, event_short t i)

-- beyond the end nothing is put, and else what fits
pub puts_none : (old : List ℕ) (at : ℕ) (line : List ℕ) → length old < at → Puts old at line old at
puts_none old at line h =
    let z : length old - at ≡ 0 = omega arith in
    let past : drop (at + length line) old ≡ [] = drop_of_length-le old (omega arith) in
    record { place = rw z (omega arith); bytes = rw (z, take_all at old (omega arith), past) (sym (append-nil old)) }

pub puts_some : (old : List ℕ) (at : ℕ) (line : List ℕ) (s : ℕ) → at ≤ length old → s ≡ min (length line) (length old - at)
    → Puts old at line (put_mid at s old (take s line)) (at + s)
puts_some old at line s f e =
    let k : ℕ = length old - at in
    cases (side k (length line))
    (λ (h : k < length line).
    let z : s ≡ k = e ∙ omega arith in
    let end : drop (at + k) old ≡ [] = drop_of_length-le old (omega arith) in
    let past : drop (at + length line) old ≡ [] = drop_of_length-le old (omega arith) in
    record {
      place = rw (z, length-take-le k line (omega arith)) refl;
      bytes = rw (z, past, drop-drop k at old, end) refl;
    })
    (λ (h : length line ≤ k).
    let z : s ≡ length line = e ∙ omega arith in
    record {
      place = rw (z, take_all k line h) refl;
      bytes = rw (z, take_all k line h, take_all (length line) line (omega arith), drop-drop (length line) at old) refl;
    })
