-- Document 02, C-11, C-13 and C-15: the two forms of a trace text. Assumes nothing.
use Rattle.std.specs.Prelude.{ℕ, Bool, true, false, not, List, eqb}
use Rattle.text.specs.Word.{bytes}
use Rattle.record.specs.declared.form.Form.{Form}
use Rattle.record.specs.declared.form.Form.TheVariants.{One, Two}

-- Line 1.
abbrev pub header : Form → List ℕ
header One = bytes "trace\t1"
header Two = bytes "trace\t2"

-- The most bytes.
abbrev pub limit_of : Form → ℕ
limit_of One = 52500
limit_of Two = 57300

-- Whether an event's line ends with a code line.
abbrev pub coded : Form → Bool
coded One = false
coded Two = true

-- Whether a code line would be lost.
abbrev pub loses : Form → ℕ → Bool
loses One code = not (eqb code 0)
loses Two code = false

-- Whether a starting value is a silent zero: it has no line, and a location without a line has it.
abbrev pub silent : Form → ℕ → Bool
silent One value = eqb value 0
silent Two value = false

-- The form that a move to a form starts from.
abbrev pub other : Form → Form
other One = Two
other Two = One
