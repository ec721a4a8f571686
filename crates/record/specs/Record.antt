-- Document 01, "Trace text", and document 02, C-11, C-13 and C-15: what a line is, read field by field. Assumes nothing.
use Rattle.std.specs.Prelude.{ℕ, Bool, true, false, cond, Option, Some, None, List, ◌≡◌}
use Rattle.event.specs.Limit.{last_place}
use Rattle.kinds.specs.Kind.{last_value, last_code, made, lawful}
use Rattle.event.specs.declared.Event.{Event}
use Rattle.text.specs.Field.{fields, on_field, on_end}
use Rattle.text.specs.Number.{number_of, on_number}
use Rattle.text.specs.Word.{same_bytes}
use Rattle.record.specs.Form.{loses, silent}
use Rattle.record.specs.Layout.{init_word, kind_of, order_of, shape_of}
use Rattle.record.specs.declared.form.Form.{Form}
use Rattle.record.specs.declared.form.Form.TheVariants.{One, Two}
use Rattle.record.specs.declared.shape.Shape.{Shape}
use Rattle.record.specs.declared.Record.{Record}
use Rattle.record.specs.declared.Record.TheVariants.{Init, AnEvent}

-- An event that has a line in a form: lawful, and without a code line that would be lost.
pub record Fit (f : Form) (e : Event) : Type 0 where
  pub law : lawful e ≡ true
  pub kept : loses f e.code ≡ false

-- The longest event line and the longest `init` line, without their LF.
abbrev pub longest_event : Form → ℕ
longest_event One = 55
longest_event Two = 61

abbrev pub longest_init : ℕ
longest_init = 29

-- A number field that is there or not; where it is not, the number is 0.
unfoldable pub number_if : Bool → ℕ → List (List ℕ) → (ℕ → List (List ℕ) → Option Record) → Option Record
number_if false max fs k = k 0 fs
number_if true max fs k = on_field None fs (λ f rest. on_number None (number_of max f) (λ n. k n rest))

-- An order or a mark that is there or not; where it is not, the number is the one in hand.
unfoldable pub order_if : Bool → ℕ → List (List ℕ) → (ℕ → List (List ℕ) → Option Record) → Option Record
order_if false o fs k = k o fs
order_if true o fs k = on_field None fs (λ f rest. k (order_of f) rest)

-- The event of a kind, if it is lawful.
abbrev pub lawful_line : Event → Option Record
lawful_line e = cond (lawful e) (Some (AnEvent e)) None

-- An event's line of a shape, after its word: place, order, values, mark, code line, and nothing more.
unfoldable pub event_by : Shape → ℕ → List (List ℕ) → Option Record
event_by s kind fs =
    number_if s.place last_place fs (λ place fs₁.
    order_if s.order 0 fs₁ (λ order fs₂.
    number_if s.first last_value fs₂ (λ first fs₃.
    number_if s.second last_value fs₃ (λ second fs₄.
    order_if s.mark order fs₄ (λ mark fs₅.
    number_if s.code last_code fs₅ (λ code fs₆.
    on_end None fs₆ (lawful_line (made kind place mark first second code))))))))

-- An event's line, after its word.
unfoldable pub event_rest : Form → ℕ → List (List ℕ) → Option Record
event_rest f kind fs = event_by (shape_of f kind) kind fs

-- An `init` line, after its word: location, value, and nothing more.
unfoldable pub init_rest : List (List ℕ) → Option Record
init_rest fs =
    number_if true last_place fs (λ place fs₁.
    number_if true last_value fs₁ (λ value fs₂.
    on_end None fs₂ (Some (Init place value))))

-- A line, if it is not that of a silent zero.
unfoldable pub unless_silent : Form → Option Record → Option Record
unless_silent f (Some (Init place value)) = cond (silent f value) None (Some (Init place value))
unless_silent f (Some (AnEvent e)) = Some (AnEvent e)
unless_silent f None = None

-- What a line is: a starting value, an event, or not of the layout.
unfoldable pub record_of : Form → List ℕ → Option Record
record_of f line = on_field None (fields line) (λ word fs. cond (same_bytes word init_word) (unless_silent f (init_rest fs)) (event_rest f (kind_of word) fs))
