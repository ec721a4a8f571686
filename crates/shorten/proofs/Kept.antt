-- The events that stay, taken one by one by their flags, and what is put of them. Assumes nothing.
use Prim.Native.Nat.{ℕ, suc, ◌+◌, ◌≤◌, ◌<◌}
use mathlib.Core.Path.{◌≡◌, refl, ◌∙◌, ap}
use mathlib.Core.Bool.{Bool, true, false, cond}
use mathlib.Core.List.{List, [], ◌∷◌, ◌++◌, map, map-append}
use native.Mathlib.Omega.{arith}
use native.Mathlib.Numerals.{add-one}
use lib.ListN.{length, get_or, drop, length-append, drop_of_length-le, get_or-eq_default}
use lib.Seq.{drop-cons}
use borrow.Author.Tests.{eq-eqb, ne_eqb}
use Rattle.laws.proofs.Cases.{cases, side}
use Rattle.event.specs.declared.Event.{Event}
use Rattle.matching.specs.Entry.{header, keep_word, gone_word, entry_line}
use Rattle.matching.specs.Text.{match_text}
use Rattle.record.specs.Layout.{event_line}
use Rattle.text.specs.Cut.{glue}
use Rattle.text.specs.Number.{decimal}
use Rattle.record.specs.declared.form.Form.{Form}
use Rattle.trace.specs.Writing.{text_of}
use Rattle.uses.specs.Way.{ways_of, ways_with}
use Rattle.writer.specs.Put.{Put, Small}
use Rattle.writer.proofs.Puts.{Left, then, left_small, left_next, left_none}
use Rattle.writer.proofs.Texts.{text_append, text_cons}
use Rattle.shelf.specs.Short.{pick, numbers}
use Rattle.shorten.specs.Write.{only}

-- ---- by the flags from an index on

picked : (c : Bool) (e : Event) (r : List Event) → cond c (e ∷ r) r ≡ only c e ++ r
picked true e r = refl
picked false e r = refl

pick_next : (flags : List Bool) (i : ℕ) (e : Event) (s : List Event)
    → pick (drop i flags) (e ∷ s) ≡ only (get_or flags i false) e ++ pick (drop (i + 1) flags) s
pick_next flags i e s =
    cases (side i (length flags)) (λ h. rw (drop-cons flags i false h, add-one i) (picked (get_or flags i false) e (pick (drop (suc i) flags) s)))
    (λ h. rw (drop_of_length-le flags {i = i} h, drop_of_length-le flags {i = i + 1} (omega arith), get_or-eq_default flags false {n = i} h))

pick_none : (flags : List Bool) → pick {A = Event} flags [] ≡ []
pick_none [] = refl
pick_none (c ∷ flags) = refl

numbers_next : (flags : List Bool) (i k : ℕ) → i < length flags
    → numbers k (drop i flags) ≡ cond (get_or flags i false) k 0 ∷ numbers (cond (get_or flags i false) (k + 1) k) (drop (i + 1) flags)
numbers_next flags i k h = rw (drop-cons flags i false h, add-one i, add-one k) (go (get_or flags i false))
  where
    go : (c : Bool) → numbers k (c ∷ drop (suc i) flags) ≡ cond c k 0 ∷ numbers (cond c (suc k) k) (drop (suc i) flags)
    go true = refl
    go false = refl

-- ---- what they touch

ways_append : (ways : List ℕ) (xs ys : List Event) → ways_of ways (xs ++ ys) ≡ ways_of (ways_of ways xs) ys
unfolding ways_of
ways_append ways [] ys = refl
ways_append ways (e ∷ xs) ys = ways_append (ways_with ways e) xs ys

pub ways_kept : (ways : List ℕ) (flags : List Bool) (i : ℕ) {es next : List Event} {e : Event} → es ≡ e ∷ next
    → ways_of ways (pick (drop i flags) es) ≡ ways_of (ways_of ways (only (get_or flags i false) e)) (pick (drop (i + 1) flags) next)
ways_kept ways flags i {next = next} {e} q =
    rw (q, pick_next flags i e next) (ways_append ways (only (get_or flags i false) e) (pick (drop (i + 1) flags) next))

pub ways_left : (ways : List ℕ) (flags : List Bool) {es : List Event} → es ≡ [] → ways_of ways (pick flags es) ≡ ways
unfolding ways_of
ways_left ways flags q = rw (q, pick_none flags)

-- ---- the lines of those that stay, one by one

abbrev lines : Form → List Event → List ℕ
lines f es = text_of (map (event_line f) es)

lines_append : (f : Form) (xs ys : List Event) → lines f (xs ++ ys) ≡ lines f xs ++ lines f ys
lines_append f xs ys = rw (map-append (event_line f) xs ys) (text_append (map (event_line f) xs) (map (event_line f) ys))

module _ (f : Form) (flags : List Bool) (i : ℕ) {room : List ℕ} {at : ℕ} {whole now : List ℕ} {here : ℕ} {es : List Event}
    (l : Left room at whole now here (lines f (pick (drop i flags) es))) where
  module _ {e : Event} {next : List Event} (q : es ≡ e ∷ next) {kept : Bool} (k : kept ≡ get_or flags i false) where
    parted : lines f (pick (drop i flags) es) ≡ lines f (only kept e) ++ lines f (pick (drop (i + 1) flags) next)
    parted = rw (q, k, pick_next flags i e next) (lines_append f (only (get_or flags i false) e) (pick (drop (i + 1) flags) next))

    pub kept_small : Small here (lines f (only kept e))
    kept_small = left_small l _ _ parted

    pub kept_put : {now₁ : List ℕ} {here₁ : ℕ} → Put now here (lines f (only kept e)) now₁ here₁
        → Left room at whole now₁ here₁ (lines f (pick (drop (i + 1) flags) next))
    kept_put p = left_next l _ _ parted p

  pub kept_none : es ≡ [] → Put room at whole now here
  unfolding text_of
  kept_none q = left_none l (rw (q, pick_none (drop i flags)))

-- ---- an entry's line, and those of the entries from an index on

module _ (n : ℕ) where
  pub gone_line : n ≡ 0 → entry_line n ++ 10 ∷ [] ≡ gone_word ++ 10 ∷ []
  unfolding entry_line
  gone_line h = rw (eq-eqb n 0 h)

  module _ (h : n ≡ 0 → ⊥) where
    keep_line : entry_line n ++ 10 ∷ [] ≡ keep_word ++ ((9 ∷ decimal n) ++ 10 ∷ [])
    unfolding entry_line glue
    keep_line = rw (ne_eqb n 0 h)

    pub keep_sum : length (entry_line n ++ 10 ∷ []) ≡ 4 + (suc (length (decimal n)) + 1)
    keep_sum = rw keep_line (simp length-append (omega arith))

    pub keep_put : {r₀ r₁ r₂ r₃ : List ℕ} {a₀ a₁ a₂ a₃ : ℕ} → Put r₀ a₀ keep_word r₁ a₁ → Put r₁ a₁ (9 ∷ decimal n) r₂ a₂ → Put r₂ a₂ (10 ∷ []) r₃ a₃
        → Put r₀ a₀ (entry_line n ++ 10 ∷ []) r₃ a₃
    keep_put p₁ p₂ p₃ = rw keep_line (then p₁ (then p₂ p₃))

module _ (flags : List Bool) (i k : ℕ) {room : List ℕ} {at : ℕ} {whole now : List ℕ} {here : ℕ}
    (l : Left room at whole now here (text_of (map entry_line (numbers k (drop i flags))))) where
  module _ (h : i < length flags) {n : ℕ} (q : n ≡ cond (get_or flags i false) k 0) where
    entries_parted : text_of (map entry_line (numbers k (drop i flags)))
        ≡ (entry_line n ++ 10 ∷ []) ++ text_of (map entry_line (numbers (cond (get_or flags i false) (k + 1) k) (drop (i + 1) flags)))
    entries_parted =
        rw (q, numbers_next flags i k h)
        (text_cons (entry_line (cond (get_or flags i false) k 0)) (map entry_line (numbers (cond (get_or flags i false) (k + 1) k) (drop (i + 1) flags))))

    pub entry_small : Small here (entry_line n ++ 10 ∷ [])
    entry_small = left_small l _ _ entries_parted

    pub entry_put : {m : ℕ} → m ≡ cond (get_or flags i false) (k + 1) k → {now₁ : List ℕ} {here₁ : ℕ} → Put now here (entry_line n ++ 10 ∷ []) now₁ here₁
        → Left room at whole now₁ here₁ (text_of (map entry_line (numbers m (drop (i + 1) flags))))
    entry_put e p = rw e (left_next l _ _ entries_parted p)

  pub entries_put : length flags ≤ i → Put room at whole now here
  unfolding text_of
  entries_put h = left_none l (rw (drop_of_length-le flags {i = i} h))

-- ---- the matching's text, line by line

glue_text : (ls : List (List ℕ)) → glue 10 (ls ++ ([] ∷ [])) ≡ text_of ls
unfolding glue text_of
glue_text [] = refl
glue_text (l ∷ []) = refl
glue_text (l ∷ m ∷ ls) = ap (λ (r : List ℕ). l ++ 10 ∷ r) (glue_text (m ∷ ls))

match_parts : (es : List ℕ) → match_text es ≡ (header ++ 10 ∷ []) ++ text_of (map entry_line es)
match_parts es = glue_text (header ∷ map entry_line es) ∙ text_cons header (map entry_line es)

pub match_sum : (es : List ℕ) → length (match_text es) ≡ 8 + length (text_of (map entry_line es))
match_sum es = rw (match_parts es) (length-append (header ++ 10 ∷ []) (text_of (map entry_line es)))

pub match_put : (es : List ℕ) {r₀ r₁ r₂ : List ℕ} {a₀ a₁ a₂ : ℕ} → Put r₀ a₀ (header ++ 10 ∷ []) r₁ a₁ → Put r₁ a₁ (text_of (map entry_line es)) r₂ a₂
    → Put r₀ a₀ (match_text es) r₂ a₂
match_put es p q = rw (match_parts es) (then p q)
