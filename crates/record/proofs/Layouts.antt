-- The layout theorem of lines: a line is read as a record exactly when it is the print of that record, and the record is in range. It is
-- proved over the shape of the kind's line. Assumes nothing.
use Prim.Native.Nat.{ℕ, ◌≤◌, ◌<◌}
use mathlib.Core.Path.{◌≡◌, refl, sym, ◌∙◌}
use mathlib.Core.Bool.{Bool, true, false, cond, false≢true}
use mathlib.Core.List.{List, [], ◌∷◌}
use native.Mathlib.Omega.{arith}
use lib.ListN.{length}
use borrow.Author.Tests.{eqb-true, not-false}
use Rattle.std.specs.Prelude.{Option, Some, None}
use Rattle.laws.proofs.Lists.{Each, Free}
use Rattle.event.specs.Limit.{last_place}
use Rattle.kinds.specs.Kind.{lawful, last_value, last_code, made}
use Rattle.event.specs.declared.Event.{Event}
use Rattle.kinds.proofs.Lawful.{first_of, second_of, code_of}
use Rattle.text.specs.Field.{fields, on_field, on_end}
use Rattle.text.specs.Number.{decimal, number_of, on_number}
use Rattle.text.specs.Word.{same_bytes}
use Rattle.text.proofs.Numbers.{low}
use Rattle.text.proofs.Parts.{cut_glue, glue_cut}
use Rattle.text.proofs.Round.{round, read_back, decimal_free}
use Rattle.text.proofs.Words.{same_eq, same_self}
use Rattle.record.specs.Form.{coded, loses, silent}
use Rattle.record.specs.Layout.{kind_words, order_words, init_word, word_at, kind_of, order_of, shape_of, parts, field_if, there}
use Rattle.record.specs.Layout.{event_fields, event_line, init_line}
use Rattle.record.specs.Record.{Fit, event_by, event_rest, init_rest, unless_silent, lawful_line, number_if, order_if, record_of}
use Rattle.record.specs.declared.form.Form.{Form}
use Rattle.record.specs.declared.form.Form.TheVariants.{One, Two}
use Rattle.record.specs.declared.shape.Shape.{Shape}
use Rattle.record.specs.declared.Record.{Record}
use Rattle.record.specs.declared.Record.TheVariants.{Init, AnEvent}
use Rattle.record.proofs.Tables.{word_of, kind_number, order_number, kind_not_init, kind_free, order_free}
use Rattle.record.proofs.Tables.{init_free as word_free}
use Rattle.record.proofs.Stands.{Shaped, shaped, stand_order, stand_words}

-- a record's line is read as the record
number_field : (b : Bool) (max n : ℕ) (fs : List (List ℕ)) (k : ℕ → List (List ℕ) → Option Record) → n ≤ max → (b ≡ false → n ≡ 0)
    → number_if b max (field_if b (decimal n) fs) k ≡ k n fs
unfolding number_if
number_field false max n fs k h z = rw (z refl)
number_field true max n fs k h z = rw (round max n h)

order_field : (b : Bool) (other o : ℕ) (fs : List (List ℕ)) (k : ℕ → List (List ℕ) → Option Record) → o ≤ length order_words
    → order_if b other (field_if b (word_at order_words o) fs) k ≡ k (cond b o other) fs
unfolding order_if
order_field false other o fs k h = refl
order_field true other o fs k h = rw (order_number o h)

lawful_is : (e : Event) (o : ℕ) → o ≡ e.order → lawful e ≡ true → lawful_line (made e.kind e.place o e.first e.second e.code) ≡ Some (AnEvent e)
lawful_is e o p h = rw (p, h)

-- neither TAB nor LF is in a field
each_there : (P : List ℕ → Type 0) (l : List (Bool × List ℕ)) → Each (λ p. P p.1) l → Each P (there l)
each_there P [] h = tt
each_there P ((true, f) ∷ l) h = (h.0, each_there P l h.1)
each_there P ((false, f) ∷ l) h = each_there P l h.1

number_free : (s : ℕ) → s < 11 → (n : ℕ) → Free s (decimal n)
number_free s l n = decimal_free s (low s (omega arith)) n

pub event_free : (f : Form) (s : ℕ) → s < 11 → (e : Event) → Each (Free s) (event_fields f e)
unfolding event_fields
event_free f s l e =
    let o : Free s (word_at order_words e.order) = order_free s l e.order in (
      kind_free s l e.kind,
      each_there (Free s) (parts (shape_of f e.kind) e) (
        number_free s l e.place,
        (o, (number_free s l e.first, (number_free s l e.second, (o, (number_free s l e.code, tt))))),
      ),
    )

pub init_free : (s : ℕ) → s < 11 → (p v : ℕ) → Each (Free s) (init_word ∷ decimal p ∷ decimal v ∷ [])
init_free s l p v = (word_free s l, (number_free s l p, (number_free s l v, tt)))

-- a form that has no code lines loses each that is not 0
no_code : (f : Form) (c : ℕ) → loses f c ≡ false → coded f ≡ false → c ≡ 0
no_code One c h z = eqb-true c 0 (not-false _ h)
no_code Two c h z = absurd (false≢true (sym z))

none_lost : (f : Form) (c : ℕ) → (coded f ≡ false → c ≡ 0) → loses f c ≡ false
none_lost One c h = rw (h refl)
none_lost Two c h = refl

rest_read : (f : Form) (e : Event) → Fit f e → event_rest f e.kind (there (parts (shape_of f e.kind) e)) ≡ Some (AnEvent e)
unfolding event_rest event_by
rest_read f e i =
    let s = shaped f e i.law in
    let o = stand_order s.stands in
    number_field _ last_place e.place _ _ s.place s.no_place
    ∙ order_field _ 0 e.order _ _ o.1
    ∙ number_field _ last_value e.first _ _ (first_of e i.law) s.no_first
    ∙ number_field _ last_value e.second _ _ (second_of e i.law) s.no_second
    ∙ order_field _ _ e.order _ _ o.1
    ∙ number_field _ last_code e.code _ _ (code_of e i.law) (no_code f e.code i.kept)
    ∙ lawful_is e _ o.0 i.law

pub event_read : (f : Form) (e : Event) → Fit f e → record_of f (event_line f e) ≡ Some (AnEvent e)
unfolding record_of event_line event_fields
event_read f e i =
    rw (cut_glue 9 _ _ (event_free f 9 (omega arith) e), kind_not_init e.kind, kind_number e.kind (shaped f e i.law).listed)
    (rest_read f e i)

pub init_read : (f : Form) (p v : ℕ) → p ≤ last_place → v ≤ last_value → silent f v ≡ false → record_of f (init_line p v) ≡ Some (Init p v)
unfolding record_of init_line init_rest unless_silent number_if
init_read f p v a b z =
    rw (cut_glue 9 _ _ (init_free 9 (omega arith) p v), same_self init_word, round last_place p a, round last_value v b, z)

-- what a record that was read says of the fields: they are its print, and it is in range
abbrev pub Says : Form → List (List ℕ) → Option Record → Type 0
Says f fs (Some (Init p v)) = (fs ≡ init_word ∷ decimal p ∷ decimal v ∷ []) × ((p ≤ last_place) × ((v ≤ last_value) × (silent f v ≡ false)))
Says f fs (Some (AnEvent e)) = (fs ≡ event_fields f e) × Fit f e
Says f fs None = Unit {0}

-- a reading field by field has what all its continuations have
module _ (P : Option Record → Type 0) (no : P None) where
  on_value : (max : ℕ) (f : List ℕ) (r : Option ℕ) (k : ℕ → Option Record) → number_of max f ≡ r
      → ((n : ℕ) → n ≤ max → f ≡ decimal n → P (k n)) → P (on_number None r k)
  on_value max f (Some n) k e h = let w = read_back max f n e in h n w.1 w.0
  on_value max f None k e h = no

  on_number_lem : (w : Bool) (max : ℕ) (fs : List (List ℕ)) (k : ℕ → List (List ℕ) → Option Record)
      → ((n : ℕ) (rest : List (List ℕ)) → n ≤ max → (w ≡ false → n ≡ 0) → fs ≡ field_if w (decimal n) rest → P (k n rest)) → P (number_if w max fs k)
  unfolding number_if
  on_number_lem false max fs k h = h 0 fs (omega arith) (λ _. refl) refl
  on_number_lem true max [] k h = no
  on_number_lem true max (f ∷ fs) k h =
      on_value max f (number_of max f) (λ n. k n fs) refl (λ n p q. h n fs p (λ e. absurd (false≢true (sym e))) (rw q))

  on_order_lem : (w : Bool) (o : ℕ) (fs : List (List ℕ)) (k : ℕ → List (List ℕ) → Option Record)
      → ((f : List ℕ) (rest : List (List ℕ)) → fs ≡ field_if w f rest → P (k (cond w (order_of f) o) rest)) → P (order_if w o fs k)
  unfolding order_if
  on_order_lem false o fs k h = h [] fs refl
  on_order_lem true o [] k h = no
  on_order_lem true o (f ∷ fs) k h = h f fs refl

  on_end_lem : (fs : List (List ℕ)) (r : Option Record) → (fs ≡ [] → P r) → P (on_end None fs r)
  on_end_lem [] r h = h refl
  on_end_lem (f ∷ fs) r h = no

  on_if : (b : Bool) (r s : Option Record) → (b ≡ true → P r) → (b ≡ false → P s) → P (cond b r s)
  on_if true r s p q = p refl
  on_if false r s p q = q refl

event_says : (f : Form) (w : List ℕ) (fs : List (List ℕ)) → Says f (w ∷ fs) (event_rest f (kind_of w) fs)
unfolding event_rest event_by event_fields
event_says f w fs =
    let k : ℕ = kind_of w in
    let s : Shape = shape_of f k in
    let P : Option Record → Type 0 = Says f (w ∷ fs) in
    on_number_lem P tt s.place last_place fs _ (λ place fs₁ _ _ q₁.
    on_order_lem P tt s.order 0 fs₁ _ (λ x fs₂ q₂.
    on_number_lem P tt s.first last_value fs₂ _ (λ a fs₃ _ _ q₃.
    on_number_lem P tt s.second last_value fs₃ _ (λ b fs₄ _ _ q₄.
    on_order_lem P tt s.mark _ fs₄ _ (λ y fs₅ q₅.
    on_number_lem P tt s.code last_code fs₅ _ (λ c fs₆ _ z q₆.
    on_end_lem P tt fs₆ _ (λ q₇.
    let o : ℕ = cond s.mark (order_of y) (cond s.order (order_of x) 0) in
    let e : Event = made k place o a b c in
    on_if P tt (lawful e) (Some (AnEvent e)) None (λ h.
    let t : Shaped s e = shaped f e h in
    let i : word_at kind_words k ≡ w = word_of kind_words w t.some in
    let d = stand_words t.stands x y refl (field_if s.first (decimal a) fs₃) (field_if s.code (decimal c) fs₆) in
    (rw (q₁, q₂, q₃, d.0, q₄, q₅, q₆, d.1, q₇, i), record { law = h; kept = none_lost f c z }))
    (λ _. tt))))))))

init_says : (f : Form) (w : List ℕ) (fs : List (List ℕ)) → w ≡ init_word → Says f (w ∷ fs) (unless_silent f (init_rest fs))
unfolding init_rest unless_silent
init_says f w fs i =
    let P : Option Record → Type 0 = λ r. Says f (w ∷ fs) (unless_silent f r) in
    on_number_lem P tt true last_place fs _ (λ p fs₁ a _ q₁.
    on_number_lem P tt true last_value fs₁ _ (λ v fs₂ b _ q₂.
    on_end_lem P tt fs₂ _ (λ q₃.
    on_if (Says f (w ∷ fs)) tt (silent f v) None (Some (Init p v)) (λ _. tt) (λ z. (rw (i, q₁, q₂, q₃), (a, (b, z)))))))

fields_say : (f : Form) (fs : List (List ℕ))
    → Says f fs (on_field None fs (λ word rest. cond (same_bytes word init_word) (unless_silent f (init_rest rest)) (event_rest f (kind_of word) rest)))
fields_say f [] = tt
fields_say f (w ∷ fs) =
    on_if (Says f (w ∷ fs)) tt (same_bytes w init_word) (unless_silent f (init_rest fs)) (event_rest f (kind_of w) fs) (λ h. init_says f w fs (same_eq w init_word h))
    (λ _. event_says f w fs)

pub says : (f : Form) (l : List ℕ) → Says f (fields l) (record_of f l)
unfolding record_of
says f l = fields_say f (fields l)

-- a line that is read as an event is the event's, and the event is in range
pub line_says : (f : Form) (l : List ℕ) (e : Event) → record_of f l ≡ Some (AnEvent e) → (l ≡ event_line f e) × Fit f e
unfolding event_line
line_says f l e h =
    let s : Says f (fields l) (Some (AnEvent e)) = rw h at (says f l) in
    (sym (glue_cut 9 l) ∙ rw s.0, s.1)

-- a line that is read as a starting value is its line, and the value is in range
pub init_back : (f : Form) (l : List ℕ) (p v : ℕ) → record_of f l ≡ Some (Init p v)
    → (l ≡ init_line p v) × ((p ≤ last_place) × ((v ≤ last_value) × (silent f v ≡ false)))
unfolding init_line
init_back f l p v h =
    let s : Says f (fields l) (Some (Init p v)) = rw h at (says f l) in
    (sym (glue_cut 9 l) ∙ rw s.0, s.1)
