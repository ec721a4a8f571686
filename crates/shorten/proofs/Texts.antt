-- A text that is read without refusal: its events are those that a walk finds, what stays of them has a text, and the entries have one. Assumes nothing.
use Prim.Native.Nat.{ℕ, suc, ◌+◌, ◌*◌, ◌≤◌}
use mathlib.Core.Path.{◌≡◌, refl, ap}
use mathlib.Core.Bool.{Bool, true, false}
use mathlib.Core.List.{List, [], ◌∷◌}
use native.Mathlib.Omega.{arith}
use lib.Dec.{eqb}
use lib.ListN.{length, replicate}
use borrow.Author.Tests.{le-leb}
use Rattle.laws.specs.Each.{Each}
use Rattle.laws.proofs.Cases.{cases, either}
use Rattle.event.specs.Limit.{event_limit}
use Rattle.event.specs.declared.Event.{Event}
use Rattle.memory.specs.declared.Memory.{Memory}
use Rattle.frame.proofs.Heads.{framed}
use Rattle.record.specs.Record.{Fit}
use Rattle.uses.specs.Cover.{touched}
use Rattle.uses.specs.Way.{is_used, ways_of}
use Rattle.uses.proofs.Ways.{used_by}
use Rattle.trace.specs.Reading.{form_of, start_of, events_of, fault_in, survey_in, room_for}
use Rattle.trace.specs.Text.{Fits}
use Rattle.trace.specs.Writing.{text_by, trace_text}
use Rattle.trace.proofs.Covered.{fit_inside}
use Rattle.trace.proofs.OneText.{Sound, text_whole, memory_is}
use Rattle.trace.proofs.Range.{text_length}
use Rattle.trace.proofs.Readings.{counts}
use Rattle.matching.specs.Reading.{matching_layout}
use Rattle.matching.specs.Text.{match_text}
use Rattle.matching.specs.Text.{Fits as EntriesFit}
use Rattle.matching.proofs.OneText.{text_read}
use Rattle.matching.proofs.Readings.{survey_done as matching_done}
use Rattle.rules.specs.View.{View, view_in}
use Rattle.writer.specs.Put.{Small}
use Rattle.writer.proofs.Puts.{small_text}
use Rattle.shelf.specs.Short.{pick, numbers, marks, short_in, names_in}
use Rattle.shelf.proofs.Accepted.{marks_length, many}
use Rattle.shorten.specs.Text.{short_text, short_matching}

-- ---- what is picked

pub pick_few : {A : Type 0} (cs : List Bool) (s : List A) → length (pick cs s) ≤ length s
pick_few [] s = omega arith
pick_few (c ∷ cs) [] = omega arith
pick_few (true ∷ cs) (e ∷ s) = omega (arith, pick_few cs s)
pick_few (false ∷ cs) (e ∷ s) = omega (arith, pick_few cs s)

pub pick_each : {A : Type 0} (P : A → Type 0) (cs : List Bool) (s : List A) → Each P s → Each P (pick cs s)
pick_each P [] s h = tt
pick_each P (c ∷ cs) [] h = tt
pick_each P (true ∷ cs) (e ∷ s) h = (h.0, pick_each P cs s h.1)
pick_each P (false ∷ cs) (e ∷ s) h = pick_each P cs s h.1

-- a number is given to each that stays, from k on
numbers_below : (n k : ℕ) (cs : List Bool) → k + length cs ≤ suc n → Each (λ e. e ≤ n) (numbers k cs)
numbers_below n k [] h = tt
numbers_below n k (true ∷ cs) h = (omega arith, numbers_below n (suc k) cs (omega arith))
numbers_below n k (false ∷ cs) h = (omega arith, numbers_below n k cs (omega arith))

-- ---- a text that is read

-- a survey asks for no more than 800 events, whatever it finds
module _ (regs : List Bool) (t : List ℕ) where
  passed : eqb (fault_in regs 1 t).number 0 ≡ true → (survey_in regs 1 t).answer.number ≡ 0
  unfolding survey_in
  passed e = rw e

  stopped : eqb (fault_in regs 1 t).number 0 ≡ false → (survey_in regs 1 t).events ≡ 0
  unfolding survey_in
  stopped e = rw e

  survey_few : (survey_in regs 1 t).events ≤ event_limit
  survey_few =
      cases (either (eqb (fault_in regs 1 t).number 0)) (λ e. omega (arith, counts regs 1 t (passed e), (text_whole regs 1 t (passed e)).fits.few))
      (λ e. omega (arith, stopped e))

  pub survey_room : room_for 1 (event_limit * 6) (survey_in regs 1 t) ≡ survey_in regs 1 t
  survey_room = rw (le-leb (survey_in regs 1 t).events event_limit survey_few)

  module _ (h : (survey_in regs 1 t).answer.number ≡ 0) where
    abbrev es : List Event
    es = events_of t

    abbrev look : Event → View
    look = view_in regs

    pub whole : Sound regs (form_of t) 1 (start_of t) es
    whole = rw (memory_is regs 1 t h) at (text_whole regs 1 t h)

    pub short_fits : Fits (form_of t) (start_of t) (short_in regs es)
    short_fits = record {
      size = whole.fits.size;
      values = whole.fits.values;
      few = omega (arith, pick_few (marks look es) es, whole.fits.few);
      events = pick_each (Fit (form_of t)) (marks look es) es whole.fits.events;
    }

    pub names_fit : EntriesFit (names_in regs es)
    names_fit = record {
      few = omega (arith, many look es, whole.fits.few);
      numbers = numbers_below 800 1 (marks look es) (omega (arith, marks_length look es, whole.fits.few));
    }

    -- both texts are small ones
    pub short_small : Small 0 (short_text regs t)
    unfolding short_text
    short_small = small_text (form_of t) (trace_text (form_of t) (start_of t) (short_in regs es)) (text_length (form_of t) (touched (short_in regs es)) (start_of t) (short_in regs es) short_fits)

    pub matching_short : length (short_matching regs t) ≤ 32400
    unfolding short_matching
    matching_short =
        (framed matching_layout 3 (match_text (names_in regs es)) (matching_done (match_text (names_in regs es)) (rw (text_read (names_in regs es) names_fit).0)).0).short

    -- by the flags, and by the ways that are found by them
    module _ {flags : List Bool} (q : flags ≡ marks look es) where
      pub kept_is : pick flags (events_of t) ≡ short_in regs es
      kept_is = rw q

      pub text_is : {ways : List ℕ} {m : Memory} → ways ≡ ways_of (replicate 256 0) (pick flags (events_of t)) → m ≡ start_of t
          → text_by (form_of t) (is_used ways) m (pick flags (events_of t)) ≡ short_text regs t
      unfolding short_text
      text_is w e =
          rw (w, e, kept_is)
          (ap (λ (has : ℕ → Bool). text_by (form_of t) has (start_of t) (short_in regs es))
          (used_by (short_in regs es) (fit_inside (form_of t) 256 (short_in regs es) refl short_fits.events)))

      pub matching_is : match_text (numbers 1 flags) ≡ short_matching regs t
      unfolding short_matching
      matching_is = rw q
