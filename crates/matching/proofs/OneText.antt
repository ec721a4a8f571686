-- One list of entries has one text: a matching text that is read without refusal has the header and the lines of its entries for parts, and
-- parts glued together are the text again; and such a text is read as those entries. Assumes nothing.
use Prim.Native.Nat.{ℕ, ◌+◌, ◌*◌, ◌≤◌}
use mathlib.Core.Path.{◌≡◌, refl, sym, ◌∙◌, ap}
use mathlib.Core.List.{List, [], ◌∷◌, ◌++◌, map}
use native.Mathlib.Omega.{arith}
use lib.Dec.{eqb, leb}
use lib.ListN.{length, length-append}
use borrow.Author.Tests.{leb-false, lt-leb}
use Rattle.std.specs.Prelude.{Option, Some, None}
use Rattle.laws.proofs.Cases.{cases, either, not_first}
use Rattle.laws.specs.Each.{Each}
use Rattle.laws.proofs.Lists.{Free}
use Rattle.text.specs.Cut.{glue}
use Rattle.text.specs.Line.{split, body, said_in}
use Rattle.text.proofs.Decimals.{length_below}
use Rattle.text.proofs.Parts.{cut_glue, glue_cut}
use Rattle.text.proofs.Round.{decimal_no_lf}
use Rattle.text.proofs.Walk.{some_end, said_on}
use Rattle.frame.specs.Reading.{lines_fault}
use Rattle.frame.proofs.Heads.{framed, by_lines}
use Rattle.frame.proofs.Lines.{lines_go, lines_pass}
use Rattle.event.specs.Answer.{done}
use Rattle.event.specs.Limit.{event_limit}
use Rattle.matching.specs.Entry.{header, entry_of, entry_line}
use Rattle.matching.specs.Reading.{matching_limit, matching_layout, entry_fault, entries_on, entries_in, read_as, survey_of, entries_of}
use Rattle.matching.specs.Text.{match_text, Fits}
use Rattle.matching.proofs.Prints.{entry_read, entry_back}
use Rattle.matching.proofs.Readings.{survey_done}

-- the lines of entries, with nothing after the last LF
abbrev tail : List ℕ → List (List ℕ)
tail es = map entry_line es ++ ([] ∷ [])

-- lines that are those of their entries, which fit behind n others
abbrev Printed : ℕ → List (List ℕ) → Type 0
Printed n ls = n ≤ event_limit → (ls ≡ tail (entries_in ls)) × ((n + length (entries_in ls) ≤ event_limit) × Each (λ e. e ≤ event_limit) (entries_in ls))

last_printed : (n : ℕ) → Printed n ([] ∷ [])
unfolding said_in
last_printed n b = (refl, (omega arith, tt))

line_printed : (n : ℕ) (l m : List ℕ) (ls : List (List ℕ)) (r : Option ℕ) → entry_of l ≡ r → entry_fault n r ≡ 0 → Printed (n + 1) (m ∷ ls)
    → Printed n (l ∷ m ∷ ls)
unfolding said_in
line_printed n l m ls None q h g b = absurd (omega arith)
line_printed n l m ls (Some e) q h g b =
    let f = leb-false event_limit n (not_first (λ (x : ℕ). x) (leb event_limit n) 3 0 (λ z. omega arith) h).0 in
    let p = g (omega (arith, f)) in
    let s = entry_back l e q in
    (rw (q, ← s.0, ← p.0), rw q (omega (arith, p.1.0), (s.1, p.1.1)))

-- Document 01, "Matching text": "line 1 `match`, `1`, then one line per source event". A text that is read without refusal is the header and
-- the lines of its entries.
pub text_back : (t : List ℕ) → (survey_of t).answer.number ≡ 0 → (match_text (entries_of t) ≡ t) × Fits (entries_of t)
unfolding entries_of
text_back t h =
    let f = framed matching_layout 3 t (survey_done t h).0 in
    let p =
    lines_pass matching_layout 3 Printed last_printed (λ n l m ls. line_printed n l m ls (entry_of l) refl) 2 0 (body (split t)) f.some f.lines
    (omega arith) in
    let e = ap (λ (qs : List (List ℕ)). header ∷ qs) (sym p.0) ∙ sym f.parts in
    (ap (glue 10) e ∙ glue_cut 10 t, record { few = omega (arith, p.1.0); numbers = p.1.1 })

-- So one list of entries has one text.
pub one_text : (t u : List ℕ) → (survey_of t).answer.number ≡ 0 → (survey_of u).answer.number ≡ 0 → entries_of t ≡ entries_of u → t ≡ u
one_text t u h k q = sym (text_back t h).0 ∙ rw q (text_back u k).0

-- and such a text is read as those entries
tail_lines : (k n : ℕ) (es : List ℕ) → n + length es ≤ event_limit → Each (λ e. e ≤ event_limit) es → lines_fault matching_layout 3 k n (tail es) ≡ done
unfolding lines_fault
tail_lines k n [] b h = refl
tail_lines k n (e ∷ es) b h =
    lines_go matching_layout 3 k n (entry_line e) (tail es) (some_end (map entry_line es)) (rw (entry_read e h.0, lt-leb event_limit n (omega arith)))
    ∙ tail_lines (k + 1) (n + 1) es (omega arith) h.1

tail_entries : (es : List ℕ) → Each (λ e. e ≤ event_limit) es → entries_in (tail es) ≡ es
unfolding said_in
tail_entries [] h = refl
tail_entries (e ∷ es) h =
    said_on (λ l. entries_on (entry_of l)) (entry_line e) (tail es) (some_end (map entry_line es)) ∙ rw (entry_read e h.0, tail_entries es h.1)

-- an entry's line has no LF, and at most 8 bytes
line_free : (n : ℕ) → Free 10 (entry_line n)
unfolding entry_line glue
line_free n =
    cases (either (eqb n 0)) (λ e. rw e ((λ z. omega arith), ((λ z. omega arith), ((λ z. omega arith), ((λ z. omega arith), tt)))))
    (λ e. rw e
    ((λ z. omega arith), ((λ z. omega arith), ((λ z. omega arith), ((λ z. omega arith), ((λ z. omega arith), decimal_no_lf n))))))

tail_free : (es : List ℕ) → Each (Free 10) (tail es)
tail_free [] = (tt, tt)
tail_free (e ∷ es) = (line_free e, tail_free es)

line_length : (n : ℕ) → n ≤ event_limit → length (entry_line n) ≤ 8
unfolding entry_line glue
line_length n h = cases (either (eqb n 0)) (λ e. rw e (omega arith)) (λ e. rw e (omega (arith, length_below 2 n (omega arith))))

tail_length : (p : List ℕ) (es : List ℕ) → Each (λ e. e ≤ event_limit) es → length (glue 10 (p ∷ tail es)) ≤ length p + 1 + length es * 9
unfolding glue
tail_length p [] h = omega (arith, length-append p (10 ∷ []))
tail_length p (e ∷ es) h =
    omega (arith, length-append p (10 ∷ glue 10 (entry_line e ∷ tail es)), tail_length (entry_line e) es h.1, line_length e h.0)

header_free : Free 10 header
header_free = (
  (λ z. omega arith),
  ((λ z. omega arith), ((λ z. omega arith), ((λ z. omega arith), ((λ z. omega arith), ((λ z. omega arith), ((λ z. omega arith), tt)))))),
)

pub text_read : (es : List ℕ) → Fits es → (survey_of (match_text es) ≡ read_as (length es)) × (entries_of (match_text es) ≡ es)
unfolding survey_of entries_of
text_read es f =
    let short : length (match_text es) ≤ matching_limit = omega (arith, tail_length header es f.numbers, f.few) in
    let q : split (match_text es) ≡ header ∷ tail es = cut_glue 10 header (tail es) (header_free, tail_free es) in
    let l = tail_lines 2 0 es (omega (arith, f.few)) f.numbers in
    let r = tail_entries es f.numbers in
    (rw (by_lines matching_layout 3 (match_text es) (tail es) short q (some_end (map entry_line es)), l, q, r), rw q r)
