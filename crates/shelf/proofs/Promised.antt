-- Document 02, C-19: what is promised of a shortened trace holds. Assumes nothing.
use mathlib.Core.Path.{◌≡◌, refl, ap, subst}
use mathlib.Core.List.{List, [], ◌∷◌}
use Prim.Native.Nat.{ℕ, suc}
use native.Mathlib.Omega.{arith}
use lib.ListN.{length}
use Rattle.event.specs.declared.Event.{Event}
use Rattle.memory.specs.Listed.{none_listed}
use Rattle.rules.specs.View.{view, view_in}
use Rattle.rules.specs.Run.{Traced, Ends, Realises}
use Rattle.rules.specs.Verdict.{verdict, verdict_in}
use Rattle.rules.proofs.Effect.{Truthful, truthful}
use Rattle.rules.proofs.Unlisted.{view_none}
use Rattle.shelf.specs.Promise.{AcceptedIn, LeastBy, LeastIn, TwiceIn, Accepted, Least, Twice}
use Rattle.shelf.proofs.Right.{short_right}
use Rattle.shelf.proofs.Accepted.{start_done, short_accepted}
use Rattle.shelf.proofs.Least.{least}
use Rattle.shelf.proofs.Twice.{twice}

pub accepted_in : AcceptedIn
unfolding verdict_in
accepted_in regs m s c h =
    let r = short_right regs (view_in regs) (truthful regs) m s c h in
    (r.0, r.1, short_accepted (view_in regs) s _ (start_done regs 0 m.cells))

ends_length : (ns : List ℕ) (k : ℕ) (u : List Traced) (t : List Event) → Ends ns k u t → length u ≡ length t
ends_length ns k [] [] h = refl
ends_length ns k [] (e ∷ t) h = absurd h
ends_length ns k (x ∷ u) [] h = absurd h
ends_length ns k (x ∷ u) (e ∷ t) h = ap suc (ends_length ns (suc k) u t h.2)

pub least_in : LeastIn
unfolding Realises
least_in regs m s c h = (
  λ u r. least regs (view_in regs) (truthful regs) m c s u h r,
  λ t ns r. let i = least regs (view_in regs) (truthful regs) m c s r.0 h r.1 in let j = ends_length ns 1 r.0 t r.2 in omega arith,
)

pub twice_in : TwiceIn
twice_in regs s = twice (view_in regs) s

-- without a list
pub accepted : Accepted
unfolding verdict
accepted m s c h =
    let r = short_right none_listed view (subst (Truthful none_listed) view_none (truthful none_listed)) m s c h in
    (r.0, r.1, short_accepted view s _ (start_done none_listed 0 m.cells))

pub fewest : Least
fewest = subst (LeastBy none_listed) view_none (least_in none_listed)

pub idempotent : Twice
idempotent s = twice view s
