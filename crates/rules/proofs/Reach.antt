-- Where there is a run from a source to a target, there is no fault. The run removes only what is gone, so that, read from its end backwards,
-- it accepts every location's word and finds every two kept items in order; read forwards it supports what it inserts. Assumes nothing.
use mathlib.Core.Bool.{true, false}
use mathlib.Core.Option.{none}
use mathlib.Core.List.{List, [], ◌∷◌}
use Prim.Native.Nat.{ℕ, suc}
use Rattle.laws.proofs.Lists.{Each}
use Rattle.rules.proofs.Item.{wall, load, store, gone, stays, Item, item, Phase, one, Moves, done, step, Run, Supported₁, Above, Gone, may}
use Rattle.rules.proofs.Item.{Supported, Orderly, Numbered, Faultless, Reaches, Kept}
use Rattle.rules.proofs.Word.{kept_load, kept_store, Agree, Ok, fine_of_ok}
use Rattle.rules.proofs.WordMoves.{Stays, AllStay, ok_stay, ok_step, agree_step}
use Rattle.rules.proofs.Place.{letter, word, by_place, sound_of_fine, step_of, Agrees}
use Rattle.rules.proofs.Order.{orderly_target, gone_above, above_gone}
use Rattle.rules.proofs.Insertion.{supported_moves}
use Rattle.rules.proofs.Target.{likes_sym, numbered_like, supported_like, NotNew, not_new, all_strict, Given}
use Rattle.rules.proofs.Chain.{all_ones, all_twos, AllStrict, strict_twos}
use Rattle.rules.proofs.FixedRun.{orderly_moves}

kept_target : (i : ℕ) (t : List Item) → Numbered i t → Each Kept t
kept_target i [] h = tt
kept_target i (item v gone ∷ t) h = absurd h
kept_target i (item v (stays w n) ∷ t) h = (tt, kept_target (suc i) t h.1)

stay₁ : (l : ℕ) (e : Item) → Kept e → Stays (letter l e)
stay₁ l (item v gone) h = absurd h
stay₁ l (item wall (stays w n)) h = tt
stay₁ l (item (load p v u) (stays w n)) h = by_place Stays l p (kept_load v) tt (λ _. tt)
stay₁ l (item (store p v) (stays w n)) h = by_place Stays l p (kept_store v) tt (λ _. tt)

stay : (l : ℕ) (s : List Item) → Each Kept s → AllStay (word l s)
stay l [] h = tt
stay l (e ∷ s) h = (stay₁ l e h.0, stay l s h.1)

ok_moves : (l : ℕ) {s t : List Item} (r : Moves one [] s t) → AllStrict Gone r → Agree none (word l s) → Ok none none (word l t) → Ok none none (word l s)
ok_moves l done c g h = h
ok_moves l (step m r) c g h =
    ok_step (step_of l m c.0) g (ok_moves l r c.1 (agree_step (step_of l m c.0) g) h)

ordered : {φ : Phase} {b s t : List Item} (r : Moves φ b s t) → AllStrict Gone r → Orderly t → Orderly s
ordered r c o = orderly_moves may Gone Above gone_above above_gone r c o

supported₁ : (b : List Item) (e : Item) → NotNew e → Supported₁ b e
supported₁ b (item v gone) h = tt
supported₁ b (item v (stays true n)) h = absurd h
supported₁ b (item v (stays false n)) h = tt

supported : (b s : List Item) → Each NotNew s → Supported b s
supported b [] h = tt
supported b (e ∷ s) h = (supported₁ b e h.0, supported (e ∷ b) s h.1)

pub faultless : (s t : List Item) → Given s t → Reaches s t → Faultless s t
unfolding Reaches Run
faultless s t g r =
    let q : Run s r.0 = r.2 in
    let n : Numbered 1 r.0 = numbered_like 1 r.1 g.numbered in
    let c : AllStrict Gone q.1 = all_strict t q.1 q.2 r.1 g.matched in
    let a : Agrees s = g.source in
    record {
      lost = sound_of_fine [] s (λ l. fine_of_ok [] (word l s) (a l)
          (ok_moves l q.1 c (a l) (ok_stay none (word l q.0) (stay l q.0 (all_twos Kept q.2 (kept_target 1 r.0 n))))));
      order = ordered q.1 c (ordered q.2 (strict_twos Gone q.2) (orderly_target r.0 n));
      extra = supported_like [] [] (λ l h. h) (likes_sym r.1)
          (supported_moves q.2 (supported [] q.0 (all_ones NotNew q.1 (not_new s t g.matched))));
    }
