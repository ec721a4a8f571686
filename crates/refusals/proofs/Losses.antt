-- 19 over the events of a text, one by one. Assumes nothing.
use Prim.Native.Nat.{ℕ, ◌+◌}
use mathlib.Core.Path.{◌≡◌, refl, sym, ◌∙◌}
use mathlib.Core.Bool.{cond}
use mathlib.Core.List.{List, [], ◌∷◌}
use Rattle.event.specs.Answer.{answer, done}
use Rattle.event.specs.Told.{Refuses}
use Rattle.event.specs.declared.Answer.{Answer}
use Rattle.event.proofs.Told.{cond_err, cond_ok}
use Rattle.event.specs.declared.Event.{Event}
use Rattle.record.specs.Form.{loses}
use Rattle.record.specs.declared.form.Form.{Form}
use Rattle.uses.proofs.Bad.{bad_go, bad_here, bad_end}
use Rattle.trace.specs.Writing.{lost}

module _ (to : Form) (side k : ℕ) where
  pub none_lost : lost to side k [] ≡ done
  none_lost = bad_end (λ e. loses to e.code) 19 side k

  module _ (e : Event) (es : List Event) where
    -- the first event loses its code line
    pub lost_here : (a : Answer) → Refuses a → a ≡ cond (loses to e.code) (answer 19 side k) done → a ≡ lost to side k (e ∷ es)
    lost_here a r q =
        let d = cond_err (loses to e.code) (answer 19 side k) a r q in
        d.1 ∙ sym (bad_here (λ e. loses to e.code) 19 side k e es d.0)

    -- or it does not
    pub not_lost : done ≡ cond (loses to e.code) (answer 19 side k) done → lost to side k (e ∷ es) ≡ lost to side (k + 1) es
    not_lost q = bad_go (λ e. loses to e.code) 19 side k e es (cond_ok (loses to e.code) (answer 19 side k) refl q)
