-- Inner: an event, if it stays. Assumes nothing.
use Rattle.std.specs.Prelude.{Bool, cond, List, [], ◌∷◌}
use Rattle.event.specs.declared.Event.{Event}

abbrev pub only : Bool → Event → List Event
only kept e = cond kept (e ∷ []) []
