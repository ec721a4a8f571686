-- The layout theorem of a matching's lines: a line is read as an entry exactly when it is the print of that entry, and the entry is at most
-- 800. The fields of a line are cut apart and glued together by the same byte. Assumes nothing.
use Prim.Native.Nat.{ℕ, ◌≤◌}
use mathlib.Core.Path.{◌≡◌, refl, sym, ◌∙◌}
use mathlib.Core.Bool.{cond}
use mathlib.Core.List.{List, [], ◌∷◌}
use native.Mathlib.Omega.{arith}
use lib.Dec.{eqb}
use borrow.Author.Tests.{eqb-true}
use Rattle.std.specs.Prelude.{Option, Some, None}
use Rattle.laws.proofs.Cases.{cases, either}
use Rattle.laws.proofs.Lists.{Each, Free}
use Rattle.text.specs.Cut.{glue}
use Rattle.text.specs.Field.{fields, join, on_end, on_field}
use Rattle.text.specs.Number.{decimal, number_of, on_number}
use Rattle.text.specs.Word.{same_bytes}
use Rattle.text.proofs.Parts.{cut_free, cut_glue, glue_cut}
use Rattle.text.proofs.Round.{round, read_back, decimal_no_tab}
use Rattle.text.proofs.Words.{same_eq}
use Rattle.event.specs.Limit.{event_limit}
use Rattle.matching.specs.Entry.{keep_word, gone_word, keep_rest, gone_rest, entry_of, entry_line}

word_free : Each (Free 9) (keep_word ∷ gone_word ∷ [])
word_free = (
  ((λ e. omega arith), ((λ e. omega arith), ((λ e. omega arith), ((λ e. omega arith), tt)))),
  (((λ e. omega arith), ((λ e. omega arith), ((λ e. omega arith), ((λ e. omega arith), tt)))), tt),
)

-- Document 01, "Matching text": "one line per source event: `keep` and a target event number (1 to 800), or `gone`." An entry's line is read
-- as the entry.
pub entry_read : (n : ℕ) → n ≤ event_limit → entry_of (entry_line n) ≡ Some n
unfolding entry_of entry_line gone_rest keep_rest same_bytes
entry_read n h =
    cases (either (eqb n 0)) (λ e. rw (e, eqb-true n 0 e, cut_free 9 gone_word word_free.1.0))
    (λ e. rw (e, cut_glue 9 keep_word (decimal n ∷ []) (word_free.0, (decimal_no_tab n, tt)), round event_limit n h, e))

-- what an entry that was read says of the fields
abbrev Says : List (List ℕ) → Option ℕ → Type 0
Says fs (Some n) = (join fs ≡ entry_line n) × (n ≤ event_limit)
Says fs None = Unit {0}

gone_says : (fs : List (List ℕ)) → Says (gone_word ∷ fs) (gone_rest fs)
unfolding gone_rest entry_line glue
gone_says [] = (refl, omega arith)
gone_says (f ∷ fs) = tt

keep_value : (f : List ℕ) (n : ℕ) → number_of event_limit f ≡ Some n → Says (keep_word ∷ f ∷ []) (cond (eqb n 0) None (Some n))
unfolding entry_line
keep_value f n e =
    let r = read_back event_limit f n e in
    cases (either (eqb n 0)) (λ z. rw z tt) (λ z. rw z (rw (z, r.0), r.1))

keep_number : (f : List ℕ) (fs : List (List ℕ)) (r : Option ℕ) → number_of event_limit f ≡ r
    → Says (keep_word ∷ f ∷ fs) (on_number None r (λ n. on_end None fs (cond (eqb n 0) None (Some n))))
keep_number f fs None e = tt
keep_number f [] (Some n) e = keep_value f n e
keep_number f (g ∷ fs) (Some n) e = tt

keep_says : (fs : List (List ℕ)) → Says (keep_word ∷ fs) (keep_rest fs)
unfolding keep_rest
keep_says [] = tt
keep_says (f ∷ fs) = keep_number f fs (number_of event_limit f) refl

fields_say : (fs : List (List ℕ))
    → Says fs (on_field None fs (λ word rest. cond (same_bytes word gone_word) (gone_rest rest) (cond (same_bytes word keep_word) (keep_rest rest) None)))
fields_say [] = tt
fields_say (w ∷ fs) =
    cases (either (same_bytes w gone_word)) (λ e. rw (e, same_eq w gone_word e) (gone_says fs))
    (λ e. rw e
    (cases (either (same_bytes w keep_word)) (λ k. rw (k, same_eq w keep_word k) (keep_says fs)) (λ k. rw k tt)))

-- A line that is read as an entry is the entry's line.
pub entry_back : (l : List ℕ) (n : ℕ) → entry_of l ≡ Some n → (l ≡ entry_line n) × (n ≤ event_limit)
unfolding entry_of
entry_back l n h =
    let s : Says (fields l) (Some n) = rw h at (fields_say (fields l)) in
    (sym (glue_cut 9 l) ∙ s.0, s.1)
