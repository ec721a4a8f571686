-- The order is looked at from the last swap's place on, or from the start where nothing is gone. Assumes nothing.
use Rattle.std.proofs.Common.{◌≡◌, ◌-◌, ◌∙◌, ℕ, zero, suc, true, false, List, length, sym, ap, refl, arith}
use Rattle.std.proofs.Math.Option.{Option, none, some}
use Rattle.event.specs.Room.{whole_events}
use Rattle.event.specs.declared.Event.{Event}
use Rattle.sight.proofs.Events.{onward_length}
use Rattle.rules.specs.View.{View, view_in}
use Rattle.changes.specs.Apply.{is_open, stands}
use Rattle.changes.specs.declared.Run.{Run}
use Rattle.course.specs.Step.{against, any_gone, missing, order_step, shifted, swap_step}
use Rattle.steps.specs.Play.{next_by}
use Rattle.steps.proofs.next_listed.Goals as goal

module _ (look : Event → View) (s t : List Event) (ns : List ℕ) (r : Run) (A : List ℕ) (o : is_open r ≡ true) (n : ℕ) (h : n ≡ length t) where
  unshifted : (p : Option ℕ) → shifted 0 p ≡ p
  unshifted none = refl
  unshifted (some i) = ap some (omega arith)

  from_start : any_gone ns (stands s t r A) ≡ false → (swapped : ℕ) → swapped ≡ 0 → order_step ns n 0 (stands s t r A) ≡ next_by look s t ns swapped r A
  from_start g swapped e = rw (h, o, e, g) (ap (λ p. swap_step p (missing ns (length t) 1 (stands s t r A))) (unshifted (against ns (stands s t r A))))

  after_swap : (swapped from : ℕ) → (swapped ≡ 0 → ⊥) → from ≡ swapped - 2 → order_step ns n from (stands s t r A) ≡ next_by look s t ns swapped r A
  after_swap zero from e f = absurd (e refl)
  after_swap (suc p) from e f = let q : from ≡ p - 1 = omega arith in rw (h, o, q)

pub returns-then-swapped-ne0 : goal.returns-then-swapped-ne0
returns-then-swapped-ne0 c =
    let a = c.args in
    let s = whole_events a.source.now in
    let t = whole_events a.target.now in
    c.order_step.ensures s t ∙ after_swap (view_in a.listed.now) s t a.entries.now a.run a.tags.now (sym c.is_open.ensures ∙ c.if-not-is_open.false) _
    (sym (onward_length a.target.now 0 _)) a.swapped _ c.if-swapped-ne0.true c.saturating_sub.ensures

pub returns : goal.returns
returns c =
    let a = c.args in
    let s = whole_events a.source.now in
    let t = whole_events a.target.now in
    c.order_step-2.ensures s t ∙ from_start (view_in a.listed.now) s t a.entries.now a.run a.tags.now (sym c.is_open.ensures ∙ c.if-not-is_open.false) _
    (sym (onward_length a.target.now 0 _)) (sym (c.any_gone.ensures s t) ∙ c.if-any_gone.false) a.swapped c.if-swapped-ne0.false
