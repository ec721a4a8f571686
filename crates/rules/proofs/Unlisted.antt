-- A call without a list: under the list that lists none the rules see an event as ever, and the verdict is the one without a list. Assumes nothing.
use mathlib.Core.Path.{◌≡◌, ap}
use mathlib.Core.Bool.{cond}
use mathlib.Core.List.{List}
use Prim.Native.Nat.{ℕ}
use Rattle.memory.specs.Listed.{none_listed}
use Rattle.event.specs.declared.Event.{Event}
use Rattle.memory.proofs.Unlisted.{no_register}
use Rattle.rules.specs.View.{View, view, view_in, wall}
use Rattle.rules.specs.Verdict.{in_order, start_answer, verdict, verdict_in}

pub view_none : view_in none_listed ≡ view
view_none i e = cond (no_register e i) wall (view e)

pub verdict_none : (m n : List ℕ) (s t : List Event) (ns : List ℕ) → verdict_in none_listed m n s t ns ≡ verdict view m n s t ns
unfolding verdict_in verdict
verdict_none m n s t ns = ap (λ (look : Event → View). in_order look (start_answer 0 m n) s t ns) view_none
