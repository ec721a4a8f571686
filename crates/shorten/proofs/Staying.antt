-- A walk over a text's events: those passed have the flags that they would have if the text ended here, and those of the whole text are theirs, as the
-- others make them, and the others'. Assumes nothing.
use Prim.Native.Nat.{ℕ, ◌+◌, ◌≤◌, ◌<◌}
use mathlib.Core.Bool.{Bool, false}
use mathlib.Core.List.{List, [], ◌∷◌, ◌++◌, map}
use mathlib.Core.Path.{◌≡◌, ◌∙◌, ap}
use native.Mathlib.Omega.{arith}
use Rattle.std.specs.Prelude.{Some}
use lib.ListN.{length, replicate}
use Rattle.event.specs.Limit.{places, event_limit}
use Rattle.event.specs.declared.Event.{Event}
use Rattle.text.specs.Line.{line_len}
use Rattle.rules.specs.View.{View, view_in}
use Rattle.record.specs.declared.form.Form.{Form}
use Rattle.trace.specs.Ahead.{heard_from, Finds}
use Rattle.trace.specs.Reading.{form_of, events_of}
use Rattle.trace.specs.declared.ahead.Found.{Found}
use Rattle.trace.proofs.Walks.{events_start}
use Rattle.shelf.specs.Short.{flags as flags_of, marks}
use Rattle.shorten.specs.declared.stay.Begun.{Begun}
use Rattle.shorten.specs.declared.stay.Begun.TheVariants.{Not}
use Rattle.shorten.proofs.Walked.{Walked, passed, flags_on, walked_start}

module _ (regs : List Bool) (text : List ℕ) (form : Form) where
  -- the events from a place on
  abbrev pub rest : ℕ → List View
  rest at = map (view_in regs) (heard_from form text at)

  pub record Staying (flags : List Bool) (begun : List Begun) (values last : List ℕ) (at n : ℕ) : Type 0 where
    pub behind : List View
    pub walked : Walked behind n flags begun values last
    pub whole : marks (view_in regs) (events_of text) ≡ passed behind (rest at) ++ flags_of behind (rest at)
    pub counted : n + length (heard_from form text at) ≡ length (events_of text)

  pub staying_start : (at : ℕ) → form ≡ form_of text → at ≡ line_len text + 1
      → Staying (replicate event_limit false) (replicate places Not) (replicate places 0) (replicate places 0) at 0
  staying_start at f a =
      let e = events_start text in
      rw (f, a) (record { behind = []; walked = walked_start; whole = ap (marks (view_in regs)) e; counted = omega (arith, ap length e) })

  module _ {flags : List Bool} {begun : List Begun} {values last : List ℕ} {at n : ℕ} (s : Staying flags begun values last at n) where
    -- an event more
    module _ (x : Found) (t : Finds form text at (Some x)) where
      pub staying_few : length (events_of text) ≤ event_limit → n < event_limit
      staying_few h = omega (arith, s.counted, ap length t.0)

      pub staying_next : {gs : List Bool} {bs : List Begun} {vs ls : List ℕ} → Walked (view_in regs x.event ∷ s.behind) (n + 1) gs bs vs ls
          → Staying gs bs vs ls x.next (n + 1)
      staying_next w = record {
        behind = view_in regs x.event ∷ s.behind;
        walked = w;
        whole =
            s.whole ∙ ap (λ (es : List Event). passed s.behind (map (view_in regs) es) ++ flags_of s.behind (map (view_in regs) es)) t.0
            ∙ flags_on s.behind (view_in regs x.event) (rest x.next);
        counted = omega (arith, s.counted, ap length t.0);
      }
