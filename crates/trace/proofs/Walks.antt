-- The events of a text from a place on, by what the line there is. Assumes nothing.
use Prim.Native.Nat.{ℕ, ◌+◌, ◌<◌}
use mathlib.Core.Path.{◌≡◌, refl, sym, ◌∙◌, ap}
use mathlib.Core.List.{List, [], ◌∷◌, ◌++◌}
use native.Mathlib.Omega.{arith}
use lib.ListN.{length}
use Rattle.std.specs.Prelude.{Option, Some, None}
use Rattle.event.specs.declared.Event.{Event}
use Rattle.text.specs.Line.{line_len, line_at, split_from, said_in}
use Rattle.text.proofs.Walk.{part, part_length, next, by_line, by_end, body_from}
use Rattle.record.specs.Record.{record_of}
use Rattle.record.specs.declared.Record.{Record}
use Rattle.record.specs.declared.Record.TheVariants.{Init, AnEvent}
use Rattle.record.specs.declared.form.Form.{Form}
use Rattle.record.proofs.Records.{line_lawful}
use Rattle.kinds.proofs.Lawful.{place_below}
use Rattle.trace.specs.Ahead.{heard_from, found_on, found_in, found_from}
use Rattle.trace.specs.Reading.{form_of, events_on, events_in, events_of}

-- of any form
module _ (f : Form) (t : List ℕ) where
  abbrev pub events_by : ℕ → List Event
  events_by at = events_in f (split_from t at)

  pub by_record : (at : ℕ) {to : ℕ} → line_at t at ≡ Some to → {r : Option Record} → r ≡ record_of f (part t at to) → events_by at ≡ events_on r ++ events_by (to + 1)
  unfolding said_in
  by_record at {to} e q = rw q (by_line (λ ps qs. events_in f ps ≡ events_on (record_of f (part t at to)) ++ events_in f qs) t at e (λ m ls. refl))

  pub by_none : (at : ℕ) → line_at t at ≡ None → events_by at ≡ []
  unfolding said_in
  by_none at e = by_end (λ ps. events_in f ps ≡ []) t at e refl (λ l. refl)

-- of the text's own
module _ (t : List ℕ) where
  abbrev pub events_from : ℕ → List Event
  events_from = events_by (form_of t) t

  pub events_start : events_of t ≡ events_from (line_len t + 1)
  unfolding events_of
  events_start = ap (events_in (form_of t)) (body_from t)

-- the events of the lines from a place on, by the line there; those of a text are those from line 2 on
module _ (f : Form) (t : List ℕ) (at : ℕ) where
  pub none_heard : line_at t at ≡ None → heard_from f t at ≡ []
  none_heard e = by_none f t at e

  module _ (to : ℕ) (e : line_at t at ≡ Some to) where
    pub event_heard : (v : Event) → record_of f (part t at to) ≡ Some (AnEvent v) → (heard_from f t at ≡ v ∷ heard_from f t (to + 1)) × (v.place < 256)
    event_heard v h = (by_record f t at e (sym h), place_below v (line_lawful f (part t at to) v h))

    pub line_heard : (r : Option Record) → record_of f (part t at to) ≡ r → ((v : Event) → r ≡ Some (AnEvent v) → ⊥) → heard_from f t at ≡ heard_from f t (to + 1)
    line_heard None h n = by_record f t at e (sym h)
    line_heard (Some (Init p v)) h n = by_record f t at e (sym h)
    line_heard (Some (AnEvent v)) h n = absurd (n v refl)

-- what is found from a place on, by the line there
module _ (f : Form) (t : List ℕ) (at : ℕ) where
  pub none_found : line_at t at ≡ None → found_from f t at ≡ None
  unfolding found_in
  none_found e = by_end (λ ps. found_in f at ps ≡ None) t at e refl (λ l. refl)

  module _ (to : ℕ) (e : line_at t at ≡ Some to) where
    found_here : found_from f t at ≡ found_on (record_of f (part t at to)) (to + 1) (found_from f t (to + 1))
    unfolding found_in
    found_here =
        let n = next t at to e in
        let p : at + length (part t at to) ≡ to = omega (arith, n.rises, part_length t at to (omega (arith, n.within))) in
        by_line (λ ps qs. found_in f at ps ≡ found_on (record_of f (part t at to)) (to + 1) (found_in f (to + 1) qs)) t at e (λ m ls. rw p)

    pub event_found : (v : Event) → record_of f (part t at to) ≡ Some (AnEvent v) → found_from f t at ≡ Some (record { event = v; next = to + 1 })
    event_found v h = found_here ∙ rw h

    pub line_found : (r : Option Record) → record_of f (part t at to) ≡ r → ((v : Event) → r ≡ Some (AnEvent v) → ⊥) → found_from f t at ≡ found_from f t (to + 1)
    line_found None h n = found_here ∙ rw h
    line_found (Some (Init p v)) h n = found_here ∙ rw h
    line_found (Some (AnEvent v)) h n = absurd (n v refl)

-- what is heard and what is found where a line is taken, in all cases
pub ruleset next_line = (none_heard, event_heard, line_heard, none_found, event_found, line_found)

pub events_heard : (t : List ℕ) → events_of t ≡ heard_from (form_of t) t (line_len t + 1)
events_heard t = events_start t
