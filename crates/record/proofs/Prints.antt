-- A line that is the print of a record has no LF, and it is short: the longest is an `add64` with every field full. Assumes nothing.
use Prim.Native.Nat.{ℕ, zero, suc, ◌+◌, ◌/◌, ◌^◌, ◌≤◌, ◌<◌}
use mathlib.Core.Path.{◌≡◌, refl}
use mathlib.Core.Bool.{Bool, true, false, cond}
use mathlib.Core.List.{List, [], ◌∷◌}
use native.Mathlib.Nat.{pow-suc, one-le-pow}
use native.Mathlib.Omega.{arith}
use lib.Dec.{leb}
use lib.ListN.{length, length-append}
use borrow.Author.Tests.{leb-true}
use Rattle.laws.proofs.Lists.{Each, Free, each_append}
use Rattle.event.specs.Limit.{last_place}
use Rattle.kinds.specs.Kind.{row, rlx, last_value, last_code, made, add64}
use Rattle.event.specs.declared.Event.{Event}
use Rattle.kinds.proofs.Lawful.{first_of, second_of, code_of}
use Rattle.text.specs.Cut.{glue}
use Rattle.text.specs.Number.{decimal}
use Rattle.text.proofs.Decimals.{length_some, length_more, length_below}
use Rattle.record.specs.Form.{coded}
use Rattle.record.specs.Layout.{kind_words, init_word, word_at, shape_of, parts, there, event_fields, event_line, init_line}
use Rattle.record.specs.Record.{Fit, longest_event, longest_init}
use Rattle.record.specs.declared.form.Form.{Form}
use Rattle.record.specs.declared.form.Form.TheVariants.{One, Two}
use Rattle.record.proofs.Tables.{up_to, each_to}
use Rattle.record.proofs.Stands.{order_most, mark_most, stand_length, shaped}
use Rattle.record.proofs.Layouts.{event_free, init_free}

glue_free : (s u : ℕ) → (s ≡ u → ⊥) → (ps : List (List ℕ)) → Each (Free u) ps → Free u (glue s ps)
unfolding glue
glue_free s u n [] h = tt
glue_free s u n (p ∷ []) h = h.0
glue_free s u n (p ∷ q ∷ ps) h = each_append _ p (s ∷ glue s (q ∷ ps)) h.0 (n, glue_free s u n (q ∷ ps) h.1)

pub event_no_lf : (f : Form) (e : Event) → Free 10 (event_line f e)
unfolding event_line
event_no_lf f e = glue_free 9 10 (λ z. omega arith) _ (event_free f 10 (omega arith) e)

pub init_no_lf : (p v : ℕ) → Free 10 (init_line p v)
unfolding init_line
init_no_lf p v = glue_free 9 10 (λ z. omega arith) _ (init_free 10 (omega arith) p v)

-- the bytes of fields, each with one after it
abbrev size : List (List ℕ) → ℕ
size [] = 0
size (p ∷ ps) = suc (length p + size ps)

glue_size : (s : ℕ) (p : List ℕ) (ps : List (List ℕ)) → suc (length (glue s (p ∷ ps))) ≡ size (p ∷ ps)
unfolding glue
glue_size s p [] = omega arith
glue_size s p (q ∷ ps) = omega (arith, length-append p (s ∷ glue s (q ∷ ps)), glue_size s q ps)

-- the digits of a place, a value and a code line, at most
abbrev place_most : ℕ
place_most = 3

abbrev value_most : ℕ
value_most = 20

abbrev code_most : ℕ
code_most = 5

place_length : (n : ℕ) → n ≤ last_place → length (decimal n) ≤ place_most
place_length n h = length_below 2 n (omega arith)

value_length : (n : ℕ) → n ≤ last_value → length (decimal n) ≤ value_most
value_length n h = length_below 19 n (omega arith)

code_length : (n : ℕ) → n ≤ last_code → length (decimal n) ≤ code_most
code_length n h = length_below 4 n (omega arith)

-- the bytes of each field after the word, at most
abbrev mosts : List ℕ
mosts = place_most ∷ order_most ∷ value_most ∷ value_most ∷ mark_most ∷ code_most ∷ []

abbrev Within : List (Bool × List ℕ) → List ℕ → Type 0
Within [] ns = Unit {0}
Within (p ∷ ps) [] = ⊥
Within (p ∷ ps) (n ∷ ns) = (p.0 ≡ true → length p.1 ≤ n) × Within ps ns

-- so many bytes have the fields that are there, each with one after it, at most
abbrev cost : List (Bool × List ℕ) → List ℕ → ℕ
cost [] ns = 0
cost (p ∷ ps) [] = 0
cost (p ∷ ps) (n ∷ ns) = cond p.0 (suc n) 0 + cost ps ns

size_there : (ps : List (Bool × List ℕ)) (ns : List ℕ) → Within ps ns → size (there ps) ≤ cost ps ns
size_there [] ns h = omega arith
size_there (p ∷ ps) [] h = absurd h
size_there ((true, f) ∷ ps) (n ∷ ns) h = let i = h.0 refl in omega (arith, size_there ps ns h.1)
size_there ((false, f) ∷ ps) (n ∷ ns) h = omega (arith, size_there ps ns h.1)

-- the bytes of a kind's line with its LF, at most
abbrev most : Form → ℕ → ℕ
most f k = suc (length (word_at kind_words k)) + cost (parts (shape_of f k) (made k 0 0 0 0 0)) mosts

kinds_cost : (f : Form) → up_to (λ n. leb (most f n) (suc (longest_event f))) (length kind_words) ≡ true
unfolding row
kinds_cost One = refl
kinds_cost Two = refl

kind_cost : (f : Form) (k : ℕ) → k ≤ length kind_words → most f k ≤ suc (longest_event f)
kind_cost f k h = leb-true _ _ (each_to (λ n. leb (most f n) (suc (longest_event f))) (length kind_words) (kinds_cost f) k h)

pub event_length : (f : Form) (e : Event) → Fit f e → length (event_line f e) ≤ longest_event f
unfolding event_line event_fields
event_length f e i =
    let s = shaped f e i.law in
    let o = stand_length s.stands in
    let ps : List (Bool × List ℕ) = parts (shape_of f e.kind) e in
    let n : size (there ps) ≤ cost ps mosts =
    size_there ps mosts (
      (λ _. place_length e.place s.place),
      (
        o.0,
        (
          (λ _. value_length e.first (first_of e i.law)),
          ((λ _. value_length e.second (second_of e i.law)), ((λ _. o.1), ((λ _. code_length e.code (code_of e i.law)), tt))),
        ),
      ),
    ) in
    omega (arith, n, glue_size 9 (word_at kind_words e.kind) (there ps), kind_cost f e.kind s.listed)

pub init_length : (p v : ℕ) → p ≤ last_place → v ≤ last_value → length (init_line p v) ≤ longest_init
unfolding init_line
init_length p v a b = omega (arith, glue_size 9 init_word (decimal p ∷ decimal v ∷ []), place_length p a, value_length v b)

-- both are reached
least : (k n : ℕ) → 10 ^ k ≤ n → k < length (decimal n)
least zero n h = length_some n
least (suc k) n h =
    let p = pow-suc 10 k in
    let z : 0 < 10 ^ k = one-le-pow k 10 (omega arith) in
    omega (arith, length_more n (omega arith), least k (n / 10) (omega arith))

abbrev full : ℕ → ℕ → Type 0
full last most = length (decimal last) ≡ most

digits : full last_place place_most × (full last_value value_most × full last_code code_most)
digits = (
  (omega (arith, place_length last_place (omega arith), least 2 last_place (omega arith))),
  (
    (omega (arith, value_length last_value (omega arith), least 19 last_value (omega arith))),
    (omega (arith, code_length last_code (omega arith), least 4 last_code (omega arith))),
  ),
)

abbrev longest : Form → Event
longest f = made add64 last_place rlx last_value last_value (cond (coded f) last_code 0)

pub event_longest : (f : Form) → length (event_line f (longest f)) ≡ longest_event f
unfolding event_line event_fields row
event_longest One = omega (arith, glue_size 9 (word_at kind_words 10) (there (parts (shape_of One 10) (longest One))), digits)
event_longest Two = omega (arith, glue_size 9 (word_at kind_words 10) (there (parts (shape_of Two 10) (longest Two))), digits)

pub init_longest : length (init_line last_place last_value) ≡ longest_init
unfolding init_line
init_longest = omega (arith, glue_size 9 init_word (decimal last_place ∷ decimal last_value ∷ []), digits)
