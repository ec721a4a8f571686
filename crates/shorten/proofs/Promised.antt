-- What is promised of a shortened text and its matching holds: both are read back as what was written, so the theory of shortened traces speaks of what the
-- check answers. Assumes nothing.
use Prim.Native.Nat.{ℕ, ◌≤◌}
use mathlib.Core.Path.{◌≡◌, refl, sym, ◌∙◌, ap, subst}
use mathlib.Core.Bool.{Bool}
use mathlib.Core.List.{List, []}
use native.Mathlib.Omega.{arith}
use lib.Dec.{T}
use lib.ListN.{length}
use borrow.Author.Tests.{le-leb}
use Rattle.event.specs.Answer.{done}
use Rattle.event.specs.Room.{capacity}
use Rattle.event.specs.declared.Event.{Event}
use Rattle.memory.specs.Listed.{none_listed}
use Rattle.memory.specs.declared.Memory.{Memory}
use Rattle.record.specs.declared.form.Form.{Form}
use Rattle.trace.specs.Fault.{event_fault_in}
use Rattle.trace.specs.Reading.{form_of, start_of, events_of, fault_in, survey_in, read_as}
use Rattle.trace.specs.Writing.{trace_text}
use Rattle.trace.proofs.OneText.{memory_is}
use Rattle.trace.proofs.ReadBack.{read_written, form_written}
use Rattle.trace.proofs.Readings.{survey_done, read_done, counts}
use Rattle.matching.specs.Reading.{entries_of, read_of, survey_of}
use Rattle.matching.specs.Reading.{read_as as entries_read_as}
use Rattle.matching.proofs.OneText.{text_read}
use Rattle.rules.specs.Demand.{right_in}
use Rattle.rules.specs.View.{view_in}
use Rattle.rules.specs.Run.{Realises}
use Rattle.checker.specs.Check.{Lent, lent, source_read_in, target_read_in, entries_read, reading_answer_in, verdict_for, check_in}
use Rattle.checker.specs.Demand.{target_of, entries_for}
use Rattle.checker.proofs.Answers.{by_list}
use Rattle.checker.proofs.Demand3.{accepted_exactly_in, judged}
use Rattle.shelf.specs.Short.{marks, short_in, names_in}
use Rattle.shelf.proofs.Accepted.{many}
use Rattle.shelf.proofs.Promised.{accepted_in, least_in, twice_in}
use Rattle.shorten.specs.Text.{short_text, short_matching}
use Rattle.shorten.specs.Promise.{AcceptedTextIn, LeastTextFor, LeastTextIn, TwiceTextIn, ReadBackFor, ReadBackIn, AcceptedText, LeastText, TwiceText, AcceptedTextListed}
use Rattle.shorten.proofs.Quiet.{quiet_of, none_of, pick_quiet, none_fewer}
use Rattle.shorten.proofs.Texts.{whole, short_fits, names_fit, pick_few}

short_of : (regs : List Bool) (u : List ℕ) {f : Form} {m : Memory} {xs : List Event} → form_of u ≡ f → start_of u ≡ m → events_of u ≡ xs
    → short_text regs u ≡ trace_text f m (short_in regs xs)
unfolding short_text
short_of regs u {f} {m} p q r =
    ap (λ (n : Memory). trace_text (form_of u) n (short_in regs (events_of u))) q ∙ ap (λ (g : Form). trace_text g m (short_in regs (events_of u))) p
    ∙ ap (λ (xs : List Event). trace_text f m (short_in regs xs)) r

module _ (regs : List Bool) (t : List ℕ) (h : (fault_in regs 1 t).number ≡ 0) where
  read : (survey_in regs 1 t).answer.number ≡ 0
  unfolding survey_in
  read = rw h

  abbrev es : List Event
  es = events_of t

  abbrev start : Memory
  start = start_of t

  -- the events are right, and none clashes
  sound : T (right_in regs start es)
  sound = (quiet_of regs 1 1 start [] es (whole regs t read).sound).1

  cells : length start.cells ≡ 256
  cells = (whole regs t read).fits.size

  -- so it is for those that stay, whatever the side
  short_sound : (side : ℕ) → event_fault_in regs side 1 start [] (short_in regs es) ≡ done
  short_sound side =
      none_of regs side 1 start [] (short_in regs es)
      (pick_quiet regs (marks (view_in regs) es) [] [] es none_fewer (quiet_of regs 1 1 start [] es (whole regs t read).sound).0)
      (accepted_in regs start es cells sound).0

  -- the shortened text is read as them
  back : (side : ℕ) → (survey_in regs side (short_text regs t) ≡ read_as (length (short_in regs es)) start) × (events_of (short_text regs t) ≡ short_in regs es)
  unfolding short_text
  back side = read_written (form_of t) side start (short_in regs es) (short_fits regs t read) regs (short_sound side)

  form_back : form_of (short_text regs t) ≡ form_of t
  unfolding short_text
  form_back = form_written (form_of t) start (short_in regs es)

  start_back : start_of (short_text regs t) ≡ start
  start_back = sym (memory_is regs 1 (short_text regs t) (rw (back 1).0)) ∙ rw (back 1).0

  -- and the matching as the entries
  names_back : (survey_of (short_matching regs t) ≡ entries_read_as (length (names_in regs es))) × (entries_of (short_matching regs t) ≡ names_in regs es)
  unfolding short_matching
  names_back = text_read (names_in regs es) (names_fit regs t read)

  pub read_back : ReadBackFor regs t
  read_back = record { form = form_back; start = start_back; events = (back 1).1; entries = names_back.1 }

  -- shortened again it is the same
  pub twice : ((fault_in regs 1 (short_text regs t)).number ≡ 0) × (short_text regs (short_text regs t) ≡ short_text regs t)
  twice = (
    (survey_done regs 1 (short_text regs t) (rw (back 1).0)).0,
    short_of regs (short_text regs t) form_back start_back (back 1).1
        ∙ ap (trace_text (form_of t) start) (twice_in regs es) ∙ sym (short_of regs t refl refl refl),
  )

  -- what it has is the least
  abbrev fewest : ℕ
  fewest = length (events_of (short_text regs t))

  fewest_is : fewest ≡ length (short_in regs es)
  fewest_is = ap length (back 1).1

  pub least : LeastTextFor regs t
  least = record {
    runs = λ u r. omega (arith, fewest_is, (least_in regs start es cells sound).0 u r);
    targets = λ l e a k. omega (
      arith,
      fewest_is,
      (least_in regs start es cells sound).1 (target_of l) (entries_for l)
          (subst (λ (x : List ℕ). Realises (view_in regs) (events_of x) (target_of l) (entries_for l)) e ((accepted_exactly_in regs l a).0 k)),
    );
  }

  -- the check accepts
  module _ (source_room_of target_room_of entry_room_of : List ℕ) (source_fits : length es ≤ capacity source_room_of) (target_fits : length es ≤ capacity target_room_of)
      (entries_fit : length es ≤ length entry_room_of) where
    abbrev handed : Lent
    handed = lent t (short_text regs t) (short_matching regs t) source_room_of target_room_of entry_room_of

    source_read_lem : source_read_in regs handed ≡ survey_in regs 1 t
    source_read_lem = (read_done regs 1 t source_room_of read (omega (arith, counts regs 1 t read))).0

    target_read_lem : target_read_in regs handed ≡ read_as (length (short_in regs es)) start
    target_read_lem = (read_done regs 2 (short_text regs t) target_room_of (rw (back 2).0) (rw (back 2).0 (omega (arith, pick_few (marks (view_in regs) es) es)))).0 ∙ (back 2).0

    entries_read_lem : entries_read handed ≡ entries_read_as (length (names_in regs es))
    unfolding read_of
    entries_read_lem = rw (names_back.0, le-leb (length (names_in regs es)) (length entry_room_of) (omega (arith, many (view_in regs) es)))

    all_read : (reading_answer_in regs handed).number ≡ 0
    unfolding reading_answer_in
    all_read = rw (source_read_lem, target_read_lem, entries_read_lem, read)

    pub check_accepts : (check_in regs handed).answer ≡ done
    unfolding verdict_for
    check_accepts =
        judged regs handed all_read
        ∙ rw (source_read_lem, target_read_lem, memory_is regs 1 t read, (back 2).1, names_back.1) (accepted_in regs start es cells sound).2

pub read_back_in : (regs : List Bool) → ReadBackIn regs
read_back_in regs t h = read_back regs t h

pub twice_text_in : (regs : List Bool) → TwiceTextIn regs
twice_text_in regs t h = twice regs t h

pub least_text_in : (regs : List Bool) → LeastTextIn regs
least_text_in regs t h = least regs t h

pub accepted_text_in : (regs : List Bool) → AcceptedTextIn regs
accepted_text_in regs l s =
    rw (← lent_is) (check_accepts regs l.source s.read l.source_room_of l.target_room_of l.entry_room_of s.source_room s.target_room s.entry_room)
  where
    lent_is : lent l.source (short_text regs l.source) (short_matching regs l.source) l.source_room_of l.target_room_of l.entry_room_of ≡ l
    lent_is = rw (← s.target, ← s.matching)

-- without a list
pub accepted_text : AcceptedText
accepted_text = accepted_text_in none_listed

pub least_text : LeastText
least_text = least_text_in none_listed

pub twice_text : TwiceText
twice_text = twice_text_in none_listed

-- with the text of a list
pub accepted_text_listed : AcceptedTextListed
accepted_text_listed list l z s = rw (by_list list l z) (accepted_text_in list.listed l s)
