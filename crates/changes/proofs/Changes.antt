-- What a step that is allowed or refused hands back and leaves, from the numbers that stand. Assumes nothing.
use mathlib.Core.Path.{◌≡◌, sym, ◌∙◌, ap}
use mathlib.Core.Bool.{true}
use mathlib.Core.Option.{Option, some}
use mathlib.Core.List.{List, ◌∷◌}
use Prim.Native.Nat.{ℕ, suc, ◌+◌, ◌-◌, ◌≤◌, ◌<◌}
use native.Mathlib.Omega.{arith}
use lib.Dec.{leb}
use lib.ListN.{get_or, length, take, drop, length-append, length-drop}
use lib.Seq.{length-take-le}
use borrow.Author.Tests.{leb-true}
use Rattle.laws.proofs.Bools.{and_right}
use Rattle.event.specs.declared.Event.{Event}
use Rattle.rules.specs.Run.{Traced}
use Rattle.changes.specs.Inner.{exchanged, with_new, without}
use Rattle.changes.specs.Apply.{Applies, front, is_open, leaving}
use Rattle.changes.specs.Tags.{trace}
use Rattle.changes.specs.declared.Applied.{Applied}
use Rattle.changes.specs.declared.Run.{Run}
use Rattle.changes.proofs.Traces.{codes_trace, length_trace}
use Rattle.event.specs.Limit.{event_limit}

pub allows : {r : Run} {A : List ℕ} {o : Option (List Traced)} {result : Applied} {after : List ℕ} (s t : List Event) (ks : List ℕ) (n : ℕ)
    → o ≡ some (trace s t ks) → length ks ≡ n → result ≡ leaving n → after ≡ front ks A → Applies r A o result after
allows {A = A} s t ks n e l q f = rw e (record {
  answer = q ∙ ap leaving (sym (length_trace s t ks ∙ l));
  left = f ∙ ap (λ k. front k A) (sym (codes_trace s t ks));
})

-- how many stand
module _ (A : List ℕ) (n : ℕ) (l : n ≤ length A) where
  pub one_less : (i : ℕ) → i < n → length (without i (take n A)) ≡ n - 1
  one_less i h =
      let m = length-take-le n A l in
      length-append (take i (take n A)) (drop (suc i) (take n A)) ∙ omega
      (arith, length-take-le i (take n A) (omega (arith, m)), length-drop (suc i) (take n A), m)

  pub as_many : (i : ℕ) → suc i < n → length (exchanged i (take n A)) ≡ n
  as_many i h =
      let m = length-take-le n A l in
      length-append (take i (take n A)) (get_or (take n A) (suc i) 0 ∷ get_or (take n A) i 0 ∷ drop (suc (suc i)) (take n A))
      ∙ omega (arith, length-take-le i (take n A) (omega (arith, m)), length-drop (suc (suc i)) (take n A), m)

  pub one_more : (i x : ℕ) → i ≤ n → length (with_new i x (take n A)) ≡ n + 1
  one_more i x h =
      let m = length-take-le n A l in
      length-append (take i (take n A)) (x ∷ drop i (take n A)) ∙ omega (arith, length-take-le i (take n A) (omega (arith, m)), length-drop i (take n A), m)

-- a run that has begun
pub fits : (r : Run) → is_open r ≡ true → r.standing ≤ event_limit
fits r h = leb-true r.standing event_limit (and_right r.begun (leb r.standing event_limit) h)
