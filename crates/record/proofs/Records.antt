-- What a record that was read says, as its readers need it: an event is lawful, and a starting value's location is in range. Assumes nothing.
use Prim.Native.Nat.{ℕ, ◌≤◌}
use mathlib.Core.Path.{◌≡◌}
use mathlib.Core.Bool.{true}
use mathlib.Core.List.{List}
use Rattle.std.specs.Prelude.{Some}
use Rattle.event.specs.Limit.{last_place}
use Rattle.kinds.specs.Kind.{lawful}
use Rattle.event.specs.declared.Event.{Event}
use Rattle.record.specs.Record.{record_of}
use Rattle.record.specs.declared.form.Form.{Form}
use Rattle.record.specs.declared.Record.TheVariants.{Init, AnEvent}
use Rattle.record.proofs.Layouts.{line_says, init_back}

pub line_lawful : (f : Form) (l : List ℕ) (e : Event) → record_of f l ≡ Some (AnEvent e) → lawful e ≡ true
line_lawful f l e h = (line_says f l e h).1.law

pub init_place : (f : Form) (l : List ℕ) (p v : ℕ) → record_of f l ≡ Some (Init p v) → p ≤ last_place
init_place f l p v h = (init_back f l p v h).1.0
