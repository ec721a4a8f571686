-- Some of document 01's cases, computed. Assumes nothing.
use mathlib.Core.Path.{◌≡◌, refl}
use mathlib.Core.Option.{Option, none, some}
use mathlib.Core.List.{List, [], ◌∷◌}
use Prim.Native.Nat.{ℕ, zero, suc}
use lib.ListN.{length}
use Rattle.kinds.specs.Kind.{row, made, used, unused, load as load_kind, store as store_kind}
use Rattle.event.specs.declared.Event.{Event}
use Rattle.rules.specs.View.{view}
use Rattle.rules.specs.Run.{Traced, number}
use Rattle.changes.specs.Change.{applied}
use Rattle.changes.specs.declared.Step.{Step}
use Rattle.changes.specs.declared.Step.TheVariants.{Remove, Swap, Insert, Done, Stuck}
use Rattle.course.specs.Cost.{cost}
use Rattle.course.specs.Step.{next_step}

-- the next steps, at most so many; the last of them says how it ended
abbrev listed : ℕ → List ℕ → List Event → Option (List Traced) → List Step
listed zero ns t o = []
listed (suc n) ns t none = []
listed (suc n) ns t (some u) = next_step view ns (length t) u ∷ listed n ns t (applied view t (next_step view ns (length t) u) u)

abbrev steps : List Event → List Event → List ℕ → List Step
steps s t ns = listed 9 ns t (some (number 1 s))

abbrev load : ℕ → ℕ → Event
load l v = made load_kind l used v 0 0

abbrev idle : ℕ → ℕ → Event
idle l v = made load_kind l unused v 0 0

abbrev store : ℕ → ℕ → Event
store l v = made store_kind l 0 v 0 0

p1 : steps [] [] [] ≡ Done ∷ []
unfolding row
p1 = refl

p2 : steps (load 1 0 ∷ load 1 0 ∷ []) (load 1 0 ∷ []) (1 ∷ 0 ∷ []) ≡ Remove 2 2 ∷ Done ∷ []
unfolding row
p2 = refl

-- a matching that is not accepted
p3 : steps (load 1 0 ∷ load 1 0 ∷ []) (load 1 0 ∷ []) (0 ∷ 1 ∷ []) ≡ Stuck ∷ []
unfolding row
p3 = refl

p6 : steps (load 1 0 ∷ store 1 4 ∷ store 1 0 ∷ []) (load 1 0 ∷ []) (1 ∷ 0 ∷ 0 ∷ []) ≡ Remove 2 2 ∷ Remove 2 3 ∷ Done ∷ []
unfolding row
p6 = refl

p8 : steps (idle 1 0 ∷ store 1 0 ∷ []) [] (0 ∷ 0 ∷ []) ≡ Remove 2 2 ∷ Remove 1 1 ∷ Done ∷ []
unfolding row
p8 = refl

p9 : steps (store 1 5 ∷ store 2 6 ∷ []) (store 2 6 ∷ store 1 5 ∷ []) (2 ∷ 1 ∷ []) ≡ Swap 1 ∷ Done ∷ []
unfolding row
p9 = refl

p12 : steps (store 1 5 ∷ []) (store 1 5 ∷ load 1 5 ∷ []) (1 ∷ []) ≡ Insert 2 ∷ Done ∷ []
unfolding row
p12 = refl

-- two removals, three swaps, two insertions
abbrev before : List Event
before = store 1 5 ∷ store 1 5 ∷ store 2 6 ∷ idle 3 0 ∷ store 3 7 ∷ []

abbrev after : List Event
after = store 3 7 ∷ load 3 7 ∷ store 2 6 ∷ store 1 5 ∷ idle 2 6 ∷ []

abbrev entries : List ℕ
entries = 4 ∷ 0 ∷ 3 ∷ 0 ∷ 1 ∷ []

mixed : steps before after entries ≡ Remove 4 4 ∷ Remove 2 2 ∷ Swap 1 ∷ Swap 2 ∷ Swap 1 ∷ Insert 2 ∷ Insert 5 ∷ Done ∷ []
unfolding row
mixed = refl

-- as many, and none for a matching that keeps all in order; a gone event between two that change places is in no pair
costs : cost (length after) entries ≡ 7
costs = refl

kept_all : cost 3 (1 ∷ 2 ∷ 3 ∷ []) ≡ 0
kept_all = refl

gone_between : cost 2 (2 ∷ 0 ∷ 1 ∷ []) ≡ 2
gone_between = refl
