-- A line as its parts, each field with the TAB before it, and a text as its lines. Assumes nothing.
use Prim.Native.Nat.{ℕ, suc, ◌+◌, ◌≤◌, ◌<◌}
use mathlib.Core.Bool.{Bool, true, false}
use mathlib.Core.Path.{◌≡◌, refl, sym}
use mathlib.Core.List.{List, [], ◌∷◌, ◌++◌, map, append_assoc}
use native.Mathlib.Omega.{arith}
use lib.ListN.{length, get_or, drop, length-append}
use Rattle.laws.proofs.Cases.{cases, either}
use Rattle.event.specs.declared.Event.{Event}
use Rattle.kinds.specs.Kind.{lawful}
use Rattle.memory.specs.declared.Memory.{Memory}
use Rattle.text.specs.Cut.{glue}
use Rattle.text.specs.Field.{join}
use Rattle.text.specs.Number.{decimal}
use Rattle.record.specs.Form.{header}
use Rattle.record.specs.Layout.{kind_words, order_words, word_at, init_word, shape_of, parts, there, event_fields, event_line, init_line}
use Rattle.record.specs.declared.shape.Shape.{Shape}
use Rattle.record.specs.declared.form.Form.{Form}
use Rattle.record.specs.declared.form.Form.TheVariants.{One}
use Rattle.record.proofs.Prints.{event_length}
use Rattle.writer.specs.Put.{Put, Small, tab_if, init_part, start_text, bare}
use Rattle.uses.specs.Way.{ways_with, ways_of}
use Rattle.trace.specs.Writing.{text_of, has_line, init_lines, text_by}
use Rattle.writer.proofs.Puts.{Left, put_none, then, left_small, left_next, left_none}
use Rattle.uses.proofs.Starts.{starts_next, starts_end}

-- parts one after the other
abbrev all : List (List ℕ) → List ℕ
all [] = []
all (p ∷ ps) = p ++ all ps

-- fields that are there or not, each with the TAB before it
abbrev pub tabs : List (Bool × List ℕ) → List (List ℕ)
tabs [] = []
tabs (p ∷ ps) = tab_if p.0 p.1 ∷ tabs ps

-- a line that is put part by part: its word, its fields, and the LF
abbrev pub line_parts : List ℕ → List (Bool × List ℕ) → List (List ℕ)
line_parts w ps = w ∷ tabs ps ++ (10 ∷ []) ∷ []

line_parts_lem : (w : List ℕ) (ps : List (Bool × List ℕ)) → join (w ∷ there ps) ++ 10 ∷ [] ≡ all (line_parts w ps)
unfolding glue
line_parts_lem w [] = refl
line_parts_lem w ((true, f) ∷ ps) = rw (append_assoc w (9 ∷ join (f ∷ there ps)) (10 ∷ []), line_parts_lem f ps)
line_parts_lem w ((false, f) ∷ ps) = line_parts_lem w ps

-- that of an event, by the shape of its kind's line
abbrev pub event_parts : Shape → Event → List (List ℕ)
event_parts s e = line_parts (word_at kind_words e.kind) (parts s e)

pub event_parts_lem : (f : Form) (e : Event) {s : Shape} → s ≡ shape_of f e.kind → event_line f e ++ 10 ∷ [] ≡ all (event_parts s e)
unfolding event_line event_fields
event_parts_lem f e h = rw h (line_parts_lem (word_at kind_words e.kind) (parts (shape_of f e.kind) e))

-- how long it is
pub event_sum : (f : Form) (e : Event) → length (event_line f e ++ 10 ∷ [])
    ≡ length (word_at kind_words e.kind) + (length (tab_if (shape_of f e.kind).place (decimal e.place))
    + (length (tab_if (shape_of f e.kind).order (word_at order_words e.order)) + (length (tab_if (shape_of f e.kind).first (decimal e.first))
    + (length (tab_if (shape_of f e.kind).second (decimal e.second)) + (length (tab_if (shape_of f e.kind).mark (word_at order_words e.order))
    + (length (tab_if (shape_of f e.kind).code (decimal e.code)) + 1))))))
event_sum f e = rw (event_parts_lem f e {s = shape_of f e.kind} refl) (simp length-append)

-- its parts put one after the other are it
module _ (f : Form) (e : Event) (s : Shape) (q : s ≡ shape_of f e.kind) where
  pub event_put : {r₀ r₁ r₂ r₃ r₄ r₅ r₆ r₇ r₈ : List ℕ} {a₀ a₁ a₂ a₃ a₄ a₅ a₆ a₇ a₈ : ℕ} → Put r₀ a₀ (word_at kind_words e.kind) r₁ a₁
      → Put r₁ a₁ (tab_if s.place (decimal e.place)) r₂ a₂ → Put r₂ a₂ (tab_if s.order (word_at order_words e.order)) r₃ a₃
      → Put r₃ a₃ (tab_if s.first (decimal e.first)) r₄ a₄ → Put r₄ a₄ (tab_if s.second (decimal e.second)) r₅ a₅
      → Put r₅ a₅ (tab_if s.mark (word_at order_words e.order)) r₆ a₆ → Put r₆ a₆ (tab_if s.code (decimal e.code)) r₇ a₇ → Put r₇ a₇ (10 ∷ []) r₈ a₈
      → Put r₀ a₀ (event_line f e ++ 10 ∷ []) r₈ a₈
  event_put p₁ p₂ p₃ p₄ p₅ p₆ p₇ p₈ = rw (event_parts_lem f e q) (then p₁ (then p₂ (then p₃ (then p₄ (then p₅ (then p₆ (then p₇ (then p₈ (put_none _ _)))))))))

-- that of a starting value
abbrev pub init_parts : ℕ → ℕ → List (List ℕ)
init_parts place value = line_parts init_word ((true, decimal place) ∷ (true, decimal value) ∷ [])

pub init_parts_lem : (place value : ℕ) → init_line place value ++ 10 ∷ [] ≡ all (init_parts place value)
unfolding init_line
init_parts_lem place value = line_parts_lem init_word ((true, decimal place) ∷ (true, decimal value) ∷ [])

pub init_sum : (place value : ℕ) → length (init_line place value ++ 10 ∷ []) ≡ 4 + (suc (length (decimal place)) + (suc (length (decimal value)) + 1))
init_sum place value = rw (init_parts_lem place value) (simp length-append (omega arith))

pub init_put : (place value : ℕ) {r₀ r₁ r₂ r₃ r₄ : List ℕ} {a₀ a₁ a₂ a₃ a₄ : ℕ} → Put r₀ a₀ init_word r₁ a₁ → Put r₁ a₁ (9 ∷ decimal place) r₂ a₂
    → Put r₂ a₂ (9 ∷ decimal value) r₃ a₃ → Put r₃ a₃ (10 ∷ []) r₄ a₄ → Put r₀ a₀ (init_line place value ++ 10 ∷ []) r₄ a₄
init_put place value p₁ p₂ p₃ p₄ = rw (init_parts_lem place value) (then p₁ (then p₂ (then p₃ (then p₄ (put_none _ _)))))

pub text_cons : (l : List ℕ) (ls : List (List ℕ)) → text_of (l ∷ ls) ≡ (l ++ 10 ∷ []) ++ text_of ls
unfolding text_of
text_cons l ls = sym (append_assoc l (10 ∷ []) (text_of ls))

pub text_append : (ls ms : List (List ℕ)) → text_of (ls ++ ms) ≡ text_of ls ++ text_of ms
unfolding text_of
text_append [] ms = refl
text_append (l ∷ ls) ms = rw (text_append ls ms) (sym (append_assoc l (10 ∷ text_of ls) (text_of ms)))

-- what stands before the events is line 1 and the `init` lines; the text is that and the events' lines
module _ (f : Form) (has : ℕ → Bool) (m : Memory) where
  start_parts : start_text f has m ≡ (header f ++ 10 ∷ []) ++ text_of (init_lines (has_line f has) 0 m.cells)
  unfolding start_text
  start_parts = text_cons (header f) (init_lines (has_line f has) 0 m.cells)

  pub start_sum : length (start_text f has m) ≡ length (header f) + 1 + length (text_of (init_lines (has_line f has) 0 m.cells))
  start_sum = rw start_parts (simp length-append)

  pub start_put : {r₀ r₁ r₂ : List ℕ} {a₀ a₁ a₂ : ℕ} → Put r₀ a₀ (header f ++ 10 ∷ []) r₁ a₁ → Put r₁ a₁ (text_of (init_lines (has_line f has) 0 m.cells)) r₂ a₂
      → Put r₀ a₀ (start_text f has m) r₂ a₂
  start_put p q = rw start_parts (then p q)

  module _ (es : List Event) where
    trace_parts : text_by f has m es ≡ start_text f has m ++ text_of (map (event_line f) es)
    unfolding text_by start_text
    trace_parts = text_append (header f ∷ init_lines (has_line f has) 0 m.cells) (map (event_line f) es)

    pub trace_sum : length (text_by f has m es) ≡ length (start_text f has m) + length (text_of (map (event_line f) es))
    trace_sum = rw trace_parts (length-append (start_text f has m) (text_of (map (event_line f) es)))

    pub trace_put : {r₀ r₁ r₂ : List ℕ} {a₀ a₁ a₂ : ℕ} → Put r₀ a₀ (start_text f has m) r₁ a₁ → Put r₁ a₁ (text_of (map (event_line f) es)) r₂ a₂
        → Put r₀ a₀ (text_by f has m es) r₂ a₂
    trace_put p q = rw trace_parts (then p q)

-- the `init` lines from a location on
module _ (has : ℕ → ℕ → Bool) (cells : List ℕ) (i : ℕ) where
  pub inits_next : i < length cells
      → text_of (init_lines has i (drop i cells))
      ≡ init_part (has i (get_or cells i 0)) i (get_or cells i 0) ++ text_of (init_lines has (i + 1) (drop (i + 1) cells))
  inits_next h =
      let v : ℕ = get_or cells i 0 in
      let ls : List (List ℕ) = init_lines has (i + 1) (drop (i + 1) cells) in
      rw (starts_next has cells i h) (cases (either (has i v)) (λ z. rw z (text_cons (init_line i v) ls)) (λ z. rw z))

  pub inits_end : length cells ≤ i → text_of (init_lines has i (drop i cells)) ≡ []
  unfolding text_of
  inits_end h = rw (starts_end has cells i h)

-- the lines of events, one by one
module _ (f : Form) {room : List ℕ} {at : ℕ} {whole now : List ℕ} {here : ℕ} {es : List Event}
    (l : Left room at whole now here (text_of (map (event_line f) es))) where
  module _ {e : Event} {next : List Event} (q : es ≡ e ∷ next) where
    parted : text_of (map (event_line f) es) ≡ (event_line f e ++ 10 ∷ []) ++ text_of (map (event_line f) next)
    parted = rw q (text_cons (event_line f e) (map (event_line f) next))

    pub line_small : Small here (event_line f e ++ 10 ∷ [])
    line_small = left_small l _ _ parted

    pub line_put : {now₁ : List ℕ} {here₁ : ℕ} → Put now here (event_line f e ++ 10 ∷ []) now₁ here₁
        → Left room at whole now₁ here₁ (text_of (map (event_line f) next))
    line_put p = left_next l _ _ parted p

  pub lines_put : es ≡ [] → Put room at whole now here
  unfolding text_of
  lines_put q = left_none l (rw q)

-- the ways after the events of a text, or of a room, one by one
pub ways_none : (ways : List ℕ) → ways_of ways [] ≡ ways
unfolding ways_of
ways_none ways = refl

pub ways_next : (ways : List ℕ) (e : Event) (es : List Event) → ways_of ways (e ∷ es) ≡ ways_of (ways_with ways e) es
unfolding ways_of
ways_next ways e es = refl

-- the line of a lawful event without its code line is short
pub bare_small : (e : Event) → lawful (bare e) ≡ true → Small 0 (event_line One (bare e) ++ 10 ∷ [])
bare_small e l = omega (arith, event_length One (bare e) (record { law = l; kept = refl }), length-append (event_line One (bare e)) (10 ∷ []))
