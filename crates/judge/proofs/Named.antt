-- One entry of those that are asked: the answer is that it is refused or the answer from the next entry on, and the marks say which numbers the entries
-- passed name, so that a number is used again exactly if it is marked. Assumes nothing.
use Prim.Native.Nat.{ℕ, ◌+◌, ◌≤◌, ◌<◌}
use mathlib.Core.Bool.{Bool, true, false, not, ◌&&◌, ◌||◌, or-false}
use mathlib.Core.List.{List, [], ◌∷◌}
use mathlib.Core.Path.{◌≡◌, refl, sym, ◌∙◌, ap}
use native.Mathlib.Numerals.{add-one}
use native.Mathlib.Omega.{arith}
use lib.Dec.{eqb, ltb}
use lib.ListN.{length, get_or, drop, length-set, replicate}
use lib.Seq.{drop-length}
use borrow.Author.Tests.{lt-ltb, le-ltb}
use Rattle.event.specs.Answer.{answer, done}
use Rattle.event.specs.Limit.{event_limit}
use Rattle.event.specs.Told.{is_done, Refuses}
use Rattle.event.specs.declared.Answer.{Answer}
use Rattle.laws.specs.Has.{has}
use Rattle.rules.specs.Fault.{is_gone}
use Rattle.rules.specs.Verdict.{entry_answer}
use Rattle.judge.specs.Marks.{in_words, marking}
use Rattle.judge.specs.Pass.{Marked}
use Rattle.sight.proofs.Events.{drop_next}
use Rattle.judge.proofs.Onward.{entry_goes, entry_stops}
use Rattle.fates.proofs.Arrays.{kept_number}
use Rattle.judge.proofs.Marked.{marked_gone, marked_next, marked_start}

-- the entries before the index are passed
pub record Passed (entries : List ℕ) (targets : ℕ) (marks : List ℕ) (i : ℕ) : Type 0 where
  pub size : length marks ≡ 13
  pub behind : List ℕ
  pub marked : Marked marks behind
  pub named : (k : ℕ) → has k entries ≡ (has k behind || has k (drop i entries))
  pub answers : entry_answer targets 1 [] entries ≡ entry_answer targets (i + 1) behind (drop i entries)

pub passed_start : (entries : List ℕ) (targets : ℕ) {marks : List ℕ} → marks ≡ replicate 13 0 → Passed entries targets marks 0
passed_start entries targets e =
    record { size = ap length e; behind = []; marked = rw e marked_start; named = λ k. refl; answers = refl }

join : (x y z : Bool) → (x || (y || z)) ≡ ((y || x) || z)
join true true z = refl
join true false z = refl
join false true z = refl
join false false z = refl

module _ {entries : List ℕ} {targets : ℕ} {marks : List ℕ} {i : ℕ} (t : Passed entries targets marks i) where
  pub passed_all : i ≡ length entries → (done ≡ entry_answer targets 1 [] entries) × Marked marks entries
  unfolding entry_answer
  passed_all e =
      (sym (t.answers ∙ rw (e, drop-length entries)), λ k p h. t.marked k p h ∙ sym (t.named k ∙ rw (e, drop-length entries, or-false)))

  module _ (h : i < length entries) where
    abbrev entry : ℕ
    entry = get_or entries i 0

    abbrev rest : List ℕ
    rest = drop (i + 1) entries

    abbrev refuses : Bool
    refuses = not (is_gone entry) && (ltb targets entry || has entry t.behind)

    parts : drop i entries ≡ entry ∷ rest
    parts = drop_next entries i entry h refl

    from_here : entry_answer targets 1 [] entries ≡ entry_answer targets (i + 1) t.behind (entry ∷ rest)
    from_here = t.answers ∙ rw parts

    passed : refuses ≡ false → (next : List ℕ) → length next ≡ 13 → Marked next (entry ∷ t.behind) → Passed entries targets next (i + 1)
    passed r next size m = record {
      size = size;
      behind = entry ∷ t.behind;
      marked = m;
      named = λ k. t.named k ∙ (rw parts (join (has k t.behind) (eqb k entry) (has k rest)));
      answers = from_here ∙ (entry_goes _ _ _ _ _ r ∙ rw (← add-one (i + 1)));
    }

    pub passed_gone : is_gone entry ≡ true → Passed entries targets marks (i + 1)
    passed_gone g = passed (rw g) marks t.size (marked_gone marks t.behind entry g t.marked)

    refused : refuses ≡ true → {a : Answer} → a ≡ answer 9 3 (i + 1) → Refuses a × (a ≡ entry_answer targets 1 [] entries)
    refused r e = (ap is_done e, e ∙ sym (from_here ∙ entry_stops _ _ _ _ _ r))

    -- a kept number beyond the target
    pub refused_beyond : is_gone entry ≡ false → targets < entry → {a : Answer} → a ≡ answer 9 3 (i + 1)
        → Refuses a × (a ≡ entry_answer targets 1 [] entries)
    refused_beyond g b = refused (rw (g, lt-ltb _ _ b))

    -- and one within it, which is marked or not
    module _ (g : is_gone entry ≡ false) (b : entry ≤ targets) (few : targets ≤ event_limit) where
      again : refuses ≡ in_words marks entry
      again = rw (g, le-ltb _ _ b) (sym (t.marked entry (kept_number entry g) (omega arith)))

      pub refused_again : in_words marks entry ≡ true → {a : Answer} → a ≡ answer 9 3 (i + 1)
          → Refuses a × (a ≡ entry_answer targets 1 [] entries)
      refused_again m = refused (again ∙ m)

      pub passed_named : in_words marks entry ≡ false → {next : List ℕ} → next ≡ marking marks entry → Passed entries targets next (i + 1)
      passed_named m {next} e =
          rw e (passed (again ∙ m) (marking marks entry) (simp length-set t.size) (marked_next marks t.behind entry (omega arith) t.size t.marked))
