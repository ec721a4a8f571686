-- Which answers the verdict gives: each test its own numbers, with its side, at a place that counts from 1 or is a location. Assumes nothing.
use Prim.Native.Nat.{ℕ, suc, ◌+◌, ◌≤◌}
use mathlib.Core.Bool.{Bool, true, not, ◌&&◌, ◌||◌}
use mathlib.Core.List.{List, [], ◌∷◌}
use mathlib.Core.Logic.{◌⊎◌, inl, inr}
use mathlib.Core.Path.{◌≡◌, refl}
use native.Mathlib.Omega.{arith}
use borrow.Author.Tests.{le-leb}
use lib.Dec.{eqb, ltb}
use lib.ListN.{length}
use Rattle.laws.specs.Has.{has}
use Rattle.event.specs.Limit.{places}
use Rattle.kinds.specs.Kind.{is_load_kind}
use Rattle.memory.specs.Listed.{listed, none_listed}
use Rattle.event.specs.Answer.{first, InTable}
use Rattle.event.specs.declared.Event.{Event}
use Rattle.event.proofs.Answers.{Among, Given, none, one, among_cond, given_cond, given_fault, given_in, in_cond, in_first}
use Rattle.laws.proofs.Cases.{by_cond}
use Rattle.rules.specs.View.{View, view_in}
use Rattle.rules.specs.Fault.{Item, item, fate, fate_of, is_gone, unlike, wall_gone, crossed, load_gone, store_gone, unsupported}
use Rattle.rules.specs.Verdict.{start_answer_in, count_answer, entry_answer, keep_fault, source_fault, target_fault, items, target_item}
use Rattle.rules.specs.Verdict.{in_order, source_answer, target_answer, verdict, verdict_in}

-- the numbers of the tests over source events and target events
abbrev pub source_faults : List ℕ
source_faults = 10 ∷ 11 ∷ 12 ∷ 13 ∷ 14 ∷ []

abbrev pub target_faults : List ℕ
target_faults = 15 ∷ 16 ∷ []

-- a number that is 0 or one of these
abbrev OneOf : List ℕ → ℕ → Type 0
OneOf ns n = (n ≡ 0) ⊎ (has n ns ≡ true)

source_fault_lem : (t : List Event) (b : List Item) (e : Event) (x : Item) (a : List Item) → OneOf source_faults (source_fault t b e x a)
source_fault_lem t b e x a =
    let P = OneOf source_faults in
    let k : P (keep_fault t b e x) =
    by_cond P (unlike t e (fate_of x)) (inr refl) (by_cond P (wall_gone x) (inr refl) (by_cond P (crossed b x) (inr refl) (inl refl))) in
    by_cond P (eqb (keep_fault t b e x) 0) (by_cond P (load_gone b x) (inr refl) (by_cond P (store_gone b x a) (inr refl) (inl refl))) k

target_fault_lem : (kind : ℕ) (b : List Item) (x : Item) → OneOf target_faults (target_fault kind b x)
target_fault_lem kind b x =
    let P = OneOf target_faults in
    by_cond P (unsupported b x) (by_cond P (is_load_kind kind) (inr refl) (inr refl)) (inl refl)

pub entries_given : (n i : ℕ) (b ks : List ℕ) → 1 ≤ i → Given (9 ∷ []) 3 (entry_answer n i b ks)
unfolding entry_answer
entries_given n i b [] h = none
entries_given n i b (k ∷ ks) h =
    given_cond _ _ (not (is_gone k) && (ltb n k || has k b)) (one refl h) (entries_given n (suc i) (k ∷ b) ks (omega arith))

-- 7 by its number alone
pub start_among : (regs : List Bool) (l : ℕ) (c d : List ℕ) → Among (7 ∷ []) (start_answer_in regs l c d)
unfolding start_answer_in
start_among regs l [] d = none
start_among regs l (v ∷ c) [] = none
start_among regs l (v ∷ c) (w ∷ d) = among_cond _ (eqb v w || listed regs l) (start_among regs (suc l) c d) (one refl)

-- its place is a location
start_in_lem : (regs : List Bool) (l : ℕ) (c d : List ℕ) → l + length c ≤ places → InTable (start_answer_in regs l c d)
unfolding start_answer_in
start_in_lem regs l [] d h = refl
start_in_lem regs l (v ∷ c) [] h = refl
start_in_lem regs l (v ∷ c) (w ∷ d) h =
    in_cond (eqb v w || listed regs l) _ _ (start_in_lem regs (suc l) c d (omega arith)) (le-leb l 255 (omega arith))

module _ (view : Event → View) where
  pub source_given : (t : List Event) (i : ℕ) (b : List Item) (s : List Event) (ns : List ℕ) → 1 ≤ i → Given source_faults 1 (source_answer view t i b s ns)
  unfolding source_answer
  source_given t i b [] ns h = none
  source_given t i b (e ∷ s) [] h = none
  source_given t i b (e ∷ s) (n ∷ ns) h =
      let x = item (view e) (fate n) in
      given_fault _ _ (source_fault t b e x (items view s ns)) i (source_fault_lem t b e x (items view s ns)) h
      (source_given t (suc i) (x ∷ b) s ns (omega arith))

  pub target_given : (ns : List ℕ) (k : ℕ) (b : List Item) (t : List Event) → 1 ≤ k → Given target_faults 2 (target_answer view ns k b t)
  unfolding target_answer
  target_given ns k b [] h = none
  target_given ns k b (e ∷ t) h =
      let x = target_item view ns k e in
      given_fault _ _ (target_fault e.kind b x) k (target_fault_lem e.kind b x) h (target_given ns (suc k) (x ∷ b) t (omega arith))

  -- 8 by its number alone
  pub count_among : (s : List Event) (ns : List ℕ) → Among (8 ∷ []) (count_answer s ns)
  unfolding count_answer
  count_among s ns = among_cond _ (eqb (length ns) (length s)) none (one refl)

  count_in : (s : List Event) (ns : List ℕ) → InTable (count_answer s ns)
  unfolding count_answer
  count_in s ns = in_cond (eqb (length ns) (length s)) _ _ refl refl

  -- the answers in their order
  order_in : (regs : List Bool) (m n : List ℕ) (s t : List Event) (ns : List ℕ) → length m ≡ places
      → InTable (in_order view (start_answer_in regs 0 m n) s t ns)
  order_in regs m n s t ns h =
      let a = start_answer_in regs 0 m n in
      let b = count_answer s ns in
      let c = entry_answer (length t) 1 [] ns in
      let d = source_answer view t 1 [] s ns in
      let e = target_answer view ns 1 [] t in
      in_first a (first b (first c (first d e))) (start_in_lem regs 0 m n (omega arith))
      (in_first b (first c (first d e)) (count_in s ns)
      (in_first c (first d e) (given_in _ _ refl (entries_given (length t) 1 [] ns (omega arith)))
      (in_first d e (given_in _ _ refl (source_given t 1 [] s ns (omega arith))) (given_in _ _ refl (target_given ns 1 [] t (omega arith))))))

  -- "Numbers that come back": the verdict is a row of the table
  pub verdict_in_lem : (m n : List ℕ) (s t : List Event) (ns : List ℕ) → length m ≡ places → InTable (verdict view m n s t ns)
  unfolding verdict
  verdict_in_lem = order_in none_listed

pub listed_verdict_in : (regs : List Bool) (m n : List ℕ) (s t : List Event) (ns : List ℕ) → length m ≡ places → InTable (verdict_in regs m n s t ns)
unfolding verdict_in
listed_verdict_in regs = order_in (view_in regs) regs
