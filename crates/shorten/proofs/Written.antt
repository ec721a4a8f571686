-- What comes back for two texts that are to be written: 17 for the first that does not fit, or both. Assumes nothing.
use Prim.Native.Nat.{ℕ, ◌+◌, ◌≤◌, ◌<◌}
use mathlib.Core.Path.{◌≡◌, refl, ◌∙◌, ap}
use mathlib.Core.Bool.{Bool}
use mathlib.Core.List.{List}
use native.Mathlib.Omega.{arith}
use lib.Dec.{eqb}
use lib.ListN.{length}
use lib.Seq.{sets-eq}
use borrow.Author.Tests.{eqb-false, le-leb, lt-leb}
use Rattle.laws.proofs.Cases.{cases, either}
use Rattle.event.specs.Answer.{answer, done}
use Rattle.event.specs.declared.Answer.{Answer}
use Rattle.registers.specs.Reading.{ListRead}
use Rattle.std.specs.Prelude.{Result, Ok, Err}
use Rattle.event.specs.Told.{Refuses}
use Rattle.registers.specs.Reading.{refused as refused_list, read_as as list_as}
use Rattle.trace.specs.Reading.{fault_in, survey_in, refused as read_refused}
use Rattle.trace.specs.Reading.{TraceRead}
use Rattle.trace.proofs.Readings.{survey_done}
use Rattle.writer.specs.Put.{Put}
use Rattle.shorten.specs.Text.{both_fault, part_by, Writes, short_text, short_matching, short_fault, shorten_in, short_out_in, matching_out_in, ShortensIn, shorten_listed, short_out_listed, matching_out_listed, ShortensListed}
use Rattle.shorten.specs.declared.Shortened.{Shortened}

put_front : {t out after : List ℕ} {n : ℕ} → Put out 0 t after n → length t ≤ length out → after ≡ part_by done t out
put_front {t} {out} p h = let o : 0 + length t ≡ length t = omega arith in p.stored ∙ sets-eq t out 0 (omega arith) ∙ rw o

module _ (t m out matchingOut : List ℕ) where
  refuses : (a : Answer) → both_fault t m out matchingOut ≡ a → Refuses a → Writes t m out matchingOut (Err a) out matchingOut
  refuses a e r = record { result = (r, rw (e, r)); text = rw (e, r); matching = rw (e, r) }

  module _ {size : ℕ} (s : size ≡ length t) where
    pub short : length out < size → Writes t m out matchingOut (Err (answer 17 2 size)) out matchingOut
    short h = refuses (answer 17 2 size) (rw (lt-leb (length t) (length out) (omega arith), ← s)) refl

    module _ {count : ℕ} (c : count ≡ length m) (h : size ≤ length out) where
      pub matching_short : length matchingOut < count → Writes t m out matchingOut (Err (answer 17 3 count)) out matchingOut
      matching_short k =
          refuses (answer 17 3 count) (rw (le-leb (length t) (length out) (omega arith), lt-leb (length m) (length matchingOut) (omega arith), ← c)) refl

      pub both : {after matchingAfter : List ℕ} {i j : ℕ} → count ≤ length matchingOut → Put out 0 t after i → Put matchingOut 0 m matchingAfter j
          → Writes t m out matchingOut (Ok (record { bytes = size; matching_bytes = count })) after matchingAfter
      both k p q =
          let z : both_fault t m out matchingOut ≡ done = rw (le-leb (length t) (length out) (omega arith), le-leb (length m) (length matchingOut) (omega arith)) in
          record { result = rw (z, s, c); text = rw z (put_front p (omega arith)); matching = rw z (put_front q (omega arith)) }

-- ---- a text: the reading's refusal, or what comes of its two texts

module _ (regs : List Bool) (t out matchingOut : List ℕ) where
  pub read_refuses : (a : Answer) → Refuses a → read_refused a ≡ survey_in regs 1 t → ShortensIn regs t out matchingOut (Err a) out matchingOut
  unfolding shorten_in short_out_in matching_out_in short_fault survey_in
  read_refuses a r q =
      cases (either (eqb (fault_in regs 1 t).number 0))
      (λ e. absurd (eqb-false a.number 0 r (ap (λ (x : TraceRead). x.answer.number) q ∙ rw e)))
      (λ e. let f : a ≡ fault_in regs 1 t = ap (λ (x : TraceRead). x.answer) q ∙ rw e in
      record { result = (r, rw (← f, r, r)); text = rw (← f, r, r); matching = rw (← f, r, r) })

  fault_passes : (fault_in regs 1 t).number ≡ 0 → short_fault regs t out matchingOut ≡ both_fault (short_text regs t) (short_matching regs t) out matchingOut
  unfolding short_fault
  fault_passes z = rw z

  pub read_writes : {long names after matchingAfter : List ℕ} (r : Result Shortened Answer) → (survey_in regs 1 t).answer.number ≡ 0 → long ≡ short_text regs t
      → names ≡ short_matching regs t → Writes long names out matchingOut r after matchingAfter → ShortensIn regs t out matchingOut r after matchingAfter
  unfolding shorten_in short_out_in matching_out_in
  read_writes r z p q w =
      let g = fault_passes (survey_done regs 1 t z).0 in
      let v = rw (p, q) at w in
      record { result = rw g v.result; text = rw g v.text; matching = rw g v.matching }

-- ---- with the text of a list: its refusal, or what comes under it

module _ (list : ListRead) (t out matchingOut : List ℕ) where
  pub list_refuses : (a : Answer) → Refuses a → refused_list a ≡ list → ShortensListed list t out matchingOut (Err a) out matchingOut
  unfolding shorten_listed short_out_listed matching_out_listed
  list_refuses a r q = record { result = (r, rw (← q, r)); text = rw (← q, r); matching = rw (← q, r) }

  pub list_passes : (marks : List Bool) → list_as marks ≡ list → (r : Result Shortened Answer) (after matchingAfter : List ℕ)
      → ShortensIn marks t out matchingOut r after matchingAfter → ShortensListed list t out matchingOut r after matchingAfter
  unfolding shorten_listed short_out_listed matching_out_listed
  list_passes marks q r after matchingAfter w = record { result = rw (← q) w.result; text = rw (← q) w.text; matching = rw (← q) w.matching }
