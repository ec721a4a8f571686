-- What is promised of a next step that is asked for from the place of the swap before it. Assumes nothing.
use Rattle.std.specs.Prelude.{◌≡◌, List, ℕ, length}
use Rattle.std.proofs.Math.Option.{some}
use Rattle.event.specs.declared.Event.{Event}
use Rattle.rules.specs.View.{View}
use Rattle.rules.specs.Run.{Traced}
use Rattle.changes.specs.Change.{applied}
use Rattle.steps.specs.Play.{next_from_by, swap_place}
use Rattle.course.specs.Step.{next_step}

-- Asked for from the place of the swap before it, the next step is the next step.
abbrev pub Resumed : Type 0
Resumed =
    (look : Event → View) (s t : List Event) (ns : List ℕ) (u v : List Traced) → applied look t (next_step look ns (length t) u) u ≡ some v
    → next_from_by look s t ns (swap_place (next_step look ns (length t) u)) v ≡ next_step look ns (length t) v
