-- Document 02, C-19: the matching from a long trace to its shortened one is accepted. Its entries rise, each names the event itself, and every event of the
-- shortened trace is named. Assumes nothing.
use mathlib.Core.Path.{◌≡◌, refl, ◌∙◌}
use mathlib.Core.Bool.{Bool, true, false, not, ◌||◌}
use mathlib.Core.List.{List, [], ◌∷◌, map}
use Prim.Native.Nat.{ℕ, suc, ◌+◌, ◌≤◌, ◌<◌}
use native.Mathlib.Omega.{arith}
use lib.Dec.{T, eqb}
use lib.ListN.{length}
use borrow.Author.Tests.{ne_eqb, le-ltb}
use Rattle.laws.proofs.Lists.{Each, each_imp}
use Rattle.laws.specs.Has.{has}
use Rattle.event.specs.Room.{no_event}
use Rattle.event.specs.Answer.{done}
use Rattle.event.specs.declared.Answer.{Answer}
use Rattle.event.specs.declared.Event.{Event}
use Rattle.rules.specs.View.{View, same}
use Rattle.rules.specs.Fault.{Item, item, gone, stays}
use Rattle.rules.specs.Verdict.{start_answer_in, count_answer, entry_answer, in_order, items, target_item}
use Rattle.rules.proofs.Item.{Clash, Ordered, Supported, Supported₁}
use Rattle.rules.proofs.Truth.{or_right, yes_not}
use Rattle.rules.proofs.Same.{same_refl}
use Rattle.rules.proofs.Entries.{From, from_start, from_here, from_next}
use Rattle.rules.proofs.Clean.{Faithful, Clean, target_items, clean_source, clean_target}
use Rattle.shelf.specs.Short.{pick, numbers, marks, short, entries}
use Rattle.shelf.proofs.First.{by_eq}
use Rattle.shelf.proofs.Tally.{bit, same_place}
use Rattle.shelf.proofs.Twice.{flags_length, map_length, numbers_length}
use Rattle.shelf.proofs.Lost.{short_sound}

-- ---- 7, 8, 9

pub start_done : (regs : List Bool) (l : ℕ) (c : List ℕ) → start_answer_in regs l c c ≡ done
unfolding start_answer_in
start_done regs l [] = refl
start_done regs l (v ∷ c) = rw (same_place v) (start_done regs (suc l) c)

count_done : (s : List Event) (ns : List ℕ) → length ns ≡ length s → count_answer s ns ≡ done
unfolding count_answer
count_done s ns h = rw (h, same_place (length s)) refl

abbrev trues : List Bool → ℕ
trues [] = 0
trues (c ∷ cs) = bit c + trues cs

trues_pick : {A : Type 0} (cs : List Bool) (s : List A) → length cs ≡ length s → length (pick cs s) ≡ trues cs
trues_pick [] s h = refl
trues_pick (c ∷ cs) [] h = absurd (omega arith)
trues_pick (true ∷ cs) (e ∷ s) h = let i = trues_pick cs s (omega arith) in omega arith
trues_pick (false ∷ cs) (e ∷ s) h = let i = trues_pick cs s (omega arith) in omega arith

has_under : (k : ℕ) (b : List ℕ) → Each (λ j. j ≤ k) b → has (suc k) b ≡ false
has_under k [] h = refl
has_under k (j ∷ b) h = let i = h.0 in rw (ne_eqb (suc k) j (λ e. omega arith)) (has_under k b h.1)

entry_done : (n i k : ℕ) (b : List ℕ) (cs : List Bool) → Each (λ j. j ≤ k) b → k + trues cs ≤ n → entry_answer n i b (numbers (suc k) cs) ≡ done
unfolding entry_answer
entry_done n i k b [] h l = refl
entry_done n i k b (true ∷ cs) h l =
    rw (le-ltb n (suc k) (omega arith), has_under k b h)
    (entry_done n (suc i) (suc k) (suc k ∷ b) cs (omega arith, each_imp (λ j. j ≤ k) (λ j. j ≤ suc k) (λ j q. omega arith) b h) (omega arith))
entry_done n i k b (false ∷ cs) h l = entry_done n (suc i) k (0 ∷ b) cs (omega arith, h) (omega arith)

-- ---- 10

faithful : (t : List Event) (k : ℕ) (s : List Event) (cs : List Bool) → length cs ≡ length s → From no_event t k (pick cs s) → Faithful t s (numbers (suc k) cs)
faithful t k [] cs h f = tt
faithful t k (e ∷ s) [] h f = absurd (omega arith)
faithful t k (e ∷ s) (true ∷ cs) h f =
    (rw (from_here no_event t k e (pick cs s) f) (yes_not (same e e) (same_refl e)), faithful t (suc k) s cs (omega arith) (from_next no_event t k e (pick cs s) f))
faithful t k (e ∷ s) (false ∷ cs) h f = (tt, faithful t k s cs (omega arith) f)

-- ---- 15, 16

has_number : (k j : ℕ) (cs : List Bool) → k ≤ j → j < k + trues cs → T (has j (numbers k cs))
has_number k j [] h l = absurd (omega arith)
has_number k j (true ∷ cs) h l = by_eq (λ c. T (c || has j (numbers (suc k) cs))) j k (λ _. tt)
    (λ ne. has_number (suc k) j cs (above k j h ne) (omega arith))
  where
    above : (k j : ℕ) → k ≤ j → (j ≡ k → ⊥) → suc k ≤ j
    above k j h ne = omega arith
has_number k j (false ∷ cs) h l = or_right (eqb j 0) (has j (numbers k cs)) (has_number k j cs h (omega arith))

module _ (look : Event → View) where
  -- ---- 12

  abbrev Under : ℕ → Item → Type 0
  Under k (item v gone) = Unit {0}
  Under k (item v (stays w n)) = n ≤ k

  clash_gone : (v : View) (y : Item) → Clash y (item v gone)
  clash_gone v (item w gone) = λ h. absurd h
  clash_gone v (item w (stays x n)) = λ h. absurd h

  clash_kept : (v : View) (w : Bool) (k : ℕ) (y : Item) → Under k y → Clash y (item v (stays w (suc k)))
  clash_kept v w k (item z gone) h = λ a. absurd a
  clash_kept v w k (item z (stays x n)) h = λ a. absurd (omega arith)

  under_next : (k : ℕ) (y : Item) → Under k y → Under (suc k) y
  under_next k (item v gone) h = tt
  under_next k (item v (stays w n)) h = omega arith

  ordered : (k : ℕ) (b : List Item) (s : List Event) (cs : List Bool) → Each (Under k) b → Ordered b (items look s (numbers (suc k) cs))
  ordered k b [] cs h = tt
  ordered k b (e ∷ s) [] h = tt
  ordered k b (e ∷ s) (true ∷ cs) h = (
    each_imp (Under k) (λ y. Clash y (item (look e) (stays false (suc k)))) (clash_kept (look e) false k) b h,
    ordered (suc k) (item (look e) (stays false (suc k)) ∷ b) s cs (omega arith, each_imp (Under k) (Under (suc k)) (under_next k) b h),
  )
  ordered k b (e ∷ s) (false ∷ cs) h = (
    each_imp (Under k) (λ y. Clash y (item (look e) gone)) (λ y _. clash_gone (look e) y) b h,
    ordered k (item (look e) gone ∷ b) s cs (tt, h),
  )

  supported₁ : (b : List Item) (v : View) (c : Bool) (n : ℕ) → T c → Supported₁ b (item v (stays (not c) n))
  supported₁ b v true n h = tt
  supported₁ b v false n h = absurd h

  supported : (cs : List Bool) (k : ℕ) (b : List Item) (t : List Event) → 1 ≤ k → k + length t ≤ suc (trues cs) → Supported b (target_items look (numbers 1 cs) k t)
  supported cs k b [] h l = tt
  supported cs k b (e ∷ t) h l = (
    supported₁ b (look e) (has k (numbers 1 cs)) k (has_number 1 k cs h (omega arith)),
    supported cs (suc k) (target_item look (numbers 1 cs) k e ∷ b) t (omega arith) (omega arith),
  )

  module _ (s : List Event) where
    pub marks_length : length (marks look s) ≡ length s
    marks_length = flags_length [] (map look s) ∙ map_length look s

    short_length : length (short look s) ≡ trues (marks look s)
    short_length = trues_pick (marks look s) s marks_length

    clean : Clean look (short look s) [] s (entries look s)
    clean = record {
      faithful = faithful (short look s) 0 s (marks look s) marks_length (from_start no_event (short look s));
      sound = short_sound look s;
      ordered = ordered 0 [] s (marks look s) tt;
    }

    pub many : length (entries look s) ≡ length s
    many = numbers_length 1 (marks look s) ∙ marks_length

    pub entries_done : entry_answer (length (short look s)) 1 [] (entries look s) ≡ done
    entries_done = entry_done (length (short look s)) 1 0 [] (marks look s) tt (let i = short_length in omega arith)

    -- whatever the memory: no fault of the matching needs the values
    pub short_accepted : (start : Answer) → start ≡ done → in_order look start s (short look s) (entries look s) ≡ done
    short_accepted start h =
        rw (h, count_done s (entries look s) many, entries_done, clean_source look (short look s) 1 [] s (entries look s) clean)
        (clean_target look (entries look s) 1 [] (short look s)
        (supported (marks look s) 1 [] (short look s) (omega arith) (let i = short_length in omega arith)))
