-- The text of a trace that has one is short, as no line of it is long. The events of a room that is not refused have a text.
-- Assumes nothing.
use Prim.Native.Nat.{ℕ, zero, suc, ◌+◌, ◌*◌, ◌≤◌, ◌<◌}
use mathlib.Core.Bool.{Bool, not}
use mathlib.Core.Path.{◌≡◌, refl, ap}
use mathlib.Core.List.{List, [], ◌∷◌, ◌++◌, map}
use native.Mathlib.Nat.{mul-le-mul_right}
use native.Mathlib.Omega.{arith}
use lib.ListN.{length, length-append}
use borrow.Author.Tests.{not-false}
use Rattle.laws.specs.Each.{Each}
use Rattle.event.specs.Limit.{places, event_limit}
use Rattle.kinds.specs.Kind.{lawful}
use Rattle.event.specs.Room.{event_at, onward}
use Rattle.event.specs.declared.Event.{Event}
use Rattle.memory.specs.declared.Memory.{Memory}
use Rattle.record.specs.Form.{header, limit_of, loses}
use Rattle.record.specs.Layout.{event_line, init_line}
use Rattle.record.specs.Record.{Fit, longest_event, longest_init}
use Rattle.record.proofs.Prints.{event_length, init_length}
use Rattle.record.specs.declared.form.Form.{Form}
use Rattle.record.specs.declared.form.Form.TheVariants.{One, Two}
use Rattle.uses.specs.Cover.{Start, starts}
use Rattle.trace.specs.Writing.{layout_fault, lost, text_of, has_line, start_line, text_by}
use Rattle.trace.specs.Text.{Valued, Fits, longest_text}
use Rattle.trace.proofs.Covered.{Heard, each_heard}
use Rattle.uses.proofs.Bad.{bad_none}
use Rattle.uses.proofs.Starts.{Rising, rising_starts}

-- each line has an LF after it
events_length : (f : Form) (es : List Event) → Each (Fit f) es → length (text_of (map (event_line f) es)) ≤ length es * suc (longest_event f)
unfolding text_of
events_length f [] h = omega arith
events_length f (e ∷ es) h =
    omega (arith, length-append (event_line f e) (10 ∷ text_of (map (event_line f) es)), event_length f e h.0, events_length f es h.1)

inits_length : (f : Form) (low : ℕ) (is : List Start) (ts : List (List ℕ)) → low ≤ places → Rising low is → Each (Heard f) is
    → low * suc longest_init + length (text_of (map start_line is ++ ts)) ≤ places * suc longest_init + length (text_of ts)
unfolding text_of
inits_length f low [] ts b r h = omega arith
inits_length f low ((p, v) ∷ is) ts b r h =
    omega (
      arith,
      r.0,
      length-append (init_line p v) (10 ∷ text_of (map start_line is ++ ts)),
      init_length p v (omega (arith, r.0)) h.0.value,
      inits_length f (p + 1) is ts (omega (arith, r.0)) r.1 h.1,
    )

-- the text of starting values that ascend and of events
pub lines_length : (f : Form) (is : List Start) (es : List Event) → Rising 0 is → Each (Heard f) is → length es ≤ event_limit → Each (Fit f) es
    → length (text_of (header f ∷ map start_line is ++ map (event_line f) es)) ≤ longest_text f
unfolding text_of
lines_length f is es r h few fit =
    let ls : List (List ℕ) = map start_line is ++ map (event_line f) es in
    let a = inits_length f 0 is (map (event_line f) es) (omega arith) r h in
    let b = events_length f es fit in
    let c = mul-le-mul_right (suc (longest_event f)) few in
    omega (arith, length-append (header f) (10 ∷ text_of ls))

-- that of a trace, whatever locations it has lines for
pub text_length : (f : Form) (has : ℕ → Bool) (m : Memory) (es : List Event) → Fits f m es → length (text_by f has m es) ≤ longest_text f
unfolding text_by
text_length f has m es i =
    lines_length f (starts (has_line f has) 0 m.cells) es
    (rising_starts (has_line f has) 0 0 m.cells (omega arith) (omega (arith, i.size))) (each_heard f has 0 m.cells i.values) i.few i.events

-- Document 02, C-13: under 52,500 bytes in form 1 and under 57,300 in form 2.
pub longest_short : (f : Form) → longest_text f < limit_of f
longest_short One = omega arith
longest_short Two = omega arith

-- the events of a room
pub onward_length : (room : List ℕ) (i n : ℕ) → length (onward room i n) ≡ n
unfolding onward
onward_length room i zero = refl
onward_length room i (suc n) = ap suc (onward_length room (i + 1) n)

module _ (room : List ℕ) where
  events_fit : (f : Form) (k l i n : ℕ) → (layout_fault k (onward room i n)).number ≡ 0 → (lost f 0 l (onward room i n)).number ≡ 0
      → Each (Fit f) (onward room i n)
  unfolding onward
  events_fit f k l i zero h g = tt
  events_fit f k l i (suc n) h g =
      let a = bad_none (λ e. not (lawful e)) 18 0 k (event_at room i) (onward room (i + 1) n) (λ z. omega arith) h in
      let b = bad_none (λ e. loses f e.code) 19 0 l (event_at room i) (onward room (i + 1) n) (λ z. omega arith) g in
      (record { law = not-false _ a.0; kept = b.0 }, events_fit f (k + 1) (l + 1) (i + 1) n a.1 b.1)

  pub room_fits : (f : Form) (m : Memory) (n : ℕ) → length m.cells ≡ places → Valued m.cells → n ≤ event_limit
      → (layout_fault 1 (onward room 0 n)).number ≡ 0 → (lost f 0 1 (onward room 0 n)).number ≡ 0 → Fits f m (onward room 0 n)
  room_fits f m n size values few lawful kept = record {
    size = size;
    values = values;
    few = omega (arith, onward_length room 0 n);
    events = events_fit f 1 1 0 n lawful kept;
  }
