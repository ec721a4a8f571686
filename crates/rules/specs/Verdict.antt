-- Document 01, "Numbers that come back", and document 02, C-16: the answer to two traces and a matching that were read without refusal, and the
-- order of its tests. Places count from 1, but for a location. Assumes nothing.
use Rattle.std.specs.Prelude.{Bool, not, cond, ◌&&◌, ◌||◌, List, [], ◌∷◌, ℕ, suc, eqb, ltb, length}
use Rattle.laws.specs.Has.{has}
use Rattle.kinds.specs.Kind.{is_load_kind}
use Rattle.memory.specs.Listed.{listed, none_listed}
use Rattle.event.specs.declared.Event.{Event}
use Rattle.event.specs.declared.Answer.{Answer}
use Rattle.event.specs.Answer.{answer, done, first}
use Rattle.rules.specs.View.{View, view_in}
use Rattle.rules.specs.Fault.{Item, item, stays, fate, fate_of, is_gone, unlike, wall_gone, crossed, load_gone, store_gone, unsupported}

-- 7: starting values differ at a location that is not listed, from the location l on; the place is the lowest such location.
unfoldable pub start_answer_in : List Bool → ℕ → List ℕ → List ℕ → Answer
start_answer_in regs l [] n = done
start_answer_in regs l (v ∷ m) [] = done
start_answer_in regs l (v ∷ m) (w ∷ n) = cond (eqb v w || listed regs l) (start_answer_in regs (suc l) m n) (answer 7 2 l)

-- The same without a list.
abbrev pub start_answer : ℕ → List ℕ → List ℕ → Answer
start_answer = start_answer_in none_listed

-- 8: matching entries are not as many as source events; the place is their number.
unfoldable pub count_answer : List Event → List ℕ → Answer
count_answer s ns = cond (eqb (length ns) (length s)) done (answer 8 3 (length ns))

-- 9: a kept target number is beyond the target, of n events, or used by an earlier entry; the entries begin at the number i, behind b.
unfoldable pub entry_answer : ℕ → ℕ → List ℕ → List ℕ → Answer
entry_answer n i b [] = done
entry_answer n i b (k ∷ ks) =
    cond (not (is_gone k) && (ltb n k || has k b)) (answer 9 3 i) (entry_answer n (suc i) (k ∷ b) ks)

-- The first of 10 to 12 that a source event shows, or 0: it has to be kept, as it is and in order.
abbrev pub keep_fault : List Event → List Item → Event → Item → ℕ
keep_fault t b e x = cond (unlike t e (fate_of x)) 10 (cond (wall_gone x) 11 (cond (crossed b x) 12 0))

-- The one of 13 and 14 that a source event shows, or 0: it cannot be removed.
abbrev pub removal_fault : List Item → Item → List Item → ℕ
removal_fault b x a = cond (load_gone b x) 13 (cond (store_gone b x a) 14 0)

-- The first of two faults.
abbrev pub first_fault : ℕ → ℕ → ℕ
first_fault f g = cond (eqb f 0) g f

-- The first of 10 to 14 that a source event shows, or 0.
abbrev pub source_fault : List Event → List Item → Event → Item → List Item → ℕ
source_fault t b e x a = first_fault (keep_fault t b e x) (removal_fault b x a)

-- The one of 15 and 16 that a target event of a kind shows, or 0: of what may not be inserted a `load` is 16, any other event 15.
abbrev pub target_fault : ℕ → List Item → Item → ℕ
target_fault kind b x = cond (unsupported b x) (cond (is_load_kind kind) 16 15) 0

module _ (view : Event → View) where
  -- The source events with the fates that their entries name.
  abbrev pub items : List Event → List ℕ → List Item
  items [] ns = []
  items (e ∷ s) [] = []
  items (e ∷ s) (n ∷ ns) = item (view e) (fate n) ∷ items s ns

  -- A target event of number k as the faults see it: it has a source if an entry names it.
  abbrev pub target_item : List ℕ → ℕ → Event → Item
  target_item ns k e = item (view e) (stays (not (has k ns)) k)

  -- 10 to 14 over the source events upward, from the number i on, behind b.
  unfoldable pub source_answer : List Event → ℕ → List Item → List Event → List ℕ → Answer
  source_answer t i b [] ns = done
  source_answer t i b (e ∷ s) [] = done
  source_answer t i b (e ∷ s) (n ∷ ns) =
      let x = item (view e) (fate n) in
      let k = source_fault t b e x (items s ns) in
      cond (eqb k 0) (source_answer t (suc i) (x ∷ b) s ns) (answer k 1 i)

  -- 15 and 16 over the target events upward, from the number k on, behind b.
  unfoldable pub target_answer : List ℕ → ℕ → List Item → List Event → Answer
  target_answer ns k b [] = done
  target_answer ns k b (e ∷ t) =
      let x = target_item ns k e in
      let f = target_fault e.kind b x in
      cond (eqb f 0) (target_answer ns (suc k) (x ∷ b) t) (answer f 2 k)

  -- The answers in their order: that for the starting values, 8, 9 over all entries, then the source events, then the target events.
  abbrev pub in_order : Answer → List Event → List Event → List ℕ → Answer
  in_order start s t ns =
      first start
      (first (count_answer s ns)
      (first (entry_answer (length t) 1 [] ns)
      (first (source_answer t 1 [] s ns) (target_answer ns 1 [] t))))

  -- The answer without a list.
  unfoldable pub verdict : List ℕ → List ℕ → List Event → List Event → List ℕ → Answer
  verdict m n s t ns = in_order (start_answer 0 m n) s t ns

-- The answer under a list.
unfoldable pub verdict_in : List Bool → List ℕ → List ℕ → List Event → List Event → List ℕ → Answer
verdict_in regs m n s t ns = in_order (view_in regs) (start_answer_in regs 0 m n) s t ns
