-- A text as its survey finds it: refused, or shortened by the flags of its events. Assumes nothing.
use Prim.Native.Nat.{ℕ, ◌*◌, ◌≤◌}
use mathlib.Core.Bool.{Bool}
use mathlib.Core.Path.{◌≡◌, sym, ◌∙◌, ap}
use mathlib.Core.List.{List}
use native.Mathlib.Omega.{arith}
use lib.ListN.{length, take, replicate}
use Rattle.std.specs.Prelude.{Result, Err}
use Rattle.event.specs.Limit.{event_limit}
use Rattle.event.specs.Told.{Refuses}
use Rattle.event.specs.declared.Answer.{Answer}
use Rattle.memory.specs.declared.Memory.{Memory}
use Rattle.matching.specs.Text.{match_text}
use Rattle.rules.specs.View.{view_in}
use Rattle.trace.specs.Reading.{TraceRead, read_as, refused as read_refused, form_of, events_of, survey_in, room_for}
use Rattle.trace.specs.Writing.{text_by}
use Rattle.trace.proofs.OneText.{memory_is}
use Rattle.trace.proofs.Readings.{counts}
use Rattle.uses.specs.Way.{is_used, ways_of}
use Rattle.writer.specs.Put.{Small}
use Rattle.shelf.specs.Short.{pick, numbers, marks}
use Rattle.shorten.specs.Text.{Writes, ShortensIn, short_text, short_matching}
use Rattle.shorten.specs.declared.Shortened.{Shortened}
use Rattle.shorten.proofs.Texts.{survey_room, whole, short_small, matching_short, text_is, matching_is}
use Rattle.shorten.proofs.Written.{read_refuses, read_writes}

module _ (regs : List Bool) (t : List ℕ) where
  pub survey_refuses : (out matchingOut : List ℕ) (a : Answer) → Refuses a → read_refused a ≡ room_for 1 (event_limit * 6) (survey_in regs 1 t)
      → ShortensIn regs t out matchingOut (Err a) out matchingOut
  survey_refuses out matchingOut a r q = read_refuses regs t out matchingOut a r (q ∙ survey_room regs t)

  module _ {n : ℕ} {m : Memory} (q : read_as n m ≡ room_for 1 (event_limit * 6) (survey_in regs 1 t)) where
    found : read_as n m ≡ survey_in regs 1 t
    found = q ∙ survey_room regs t

    read : (survey_in regs 1 t).answer.number ≡ 0
    read = ap (λ (r : TraceRead). r.answer.number) (sym found)

    counted : n ≡ length (events_of t)
    counted = ap (λ (r : TraceRead). r.events) found ∙ counts regs 1 t read

    pub survey_few : length (events_of t) ≤ event_limit
    survey_few = omega (arith, (whole regs t read).fits.few)

    -- by the flags
    module _ (flags : List Bool) (k : take (length (events_of t)) flags ≡ marks (view_in regs) (events_of t)) where
      flags_are : take n flags ≡ marks (view_in regs) (events_of t)
      flags_are = rw counted k

      names_are : match_text (numbers 1 (take n flags)) ≡ short_matching regs t
      names_are = matching_is regs t read flags_are

      pub survey_small_2 : Small 0 (match_text (numbers 1 (take n flags)))
      survey_small_2 = rw names_are (omega (arith, matching_short regs t read))

      -- and the ways in which the events that stay use the locations
      module _ (ways : List ℕ) (u : ways ≡ ways_of (replicate 256 0) (pick (take n flags) (events_of t))) where
        abbrev long : List ℕ
        long = text_by (form_of t) (is_used ways) m (pick (take n flags) (events_of t))

        long_is : long ≡ short_text regs t
        long_is = text_is regs t read flags_are u (ap (λ (r : TraceRead). r.memory) found ∙ memory_is regs 1 t read)

        pub survey_small : Small 0 long
        survey_small = rw long_is (short_small regs t read)

        pub survey_writes : {out matchingOut after matchingAfter : List ℕ} {r : Result Shortened Answer}
            → Writes long (match_text (numbers 1 (take n flags))) out matchingOut r after matchingAfter → ShortensIn regs t out matchingOut r after matchingAfter
        survey_writes {out} {matchingOut} {r = r} w = read_writes regs t out matchingOut r read long_is names_are w
