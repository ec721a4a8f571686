-- One target event of those that are asked: the answer is that it is refused or the answer from the next event on; the array says which locations had no
-- access since the last synchronising event, which is all that 16 asks. Assumes nothing.
use Prim.Native.Nat.{ℕ, ◌+◌, ◌-◌, ◌≤◌, ◌<◌}
use mathlib.Core.Bool.{Bool, true, false, not}
use mathlib.Core.List.{List, [], ◌∷◌}
use mathlib.Core.Path.{◌≡◌, refl, sym, ◌∙◌, ap}
use native.Mathlib.Numerals.{add-one}
use native.Mathlib.Omega.{arith}
use borrow.Author.Tests.{ne_eqb}
use lib.ListN.{length, length-set, replicate, set, get_or}
use Rattle.std.specs.Prelude.{None, Some}
use Rattle.event.specs.Answer.{answer, done}
use Rattle.event.specs.Told.{Refuses}
use Rattle.event.specs.declared.Answer.{Answer}
use Rattle.event.specs.declared.Event.{Event}
use Rattle.laws.specs.Has.{has}
use Rattle.event.specs.Limit.{places, event_limit}
use Rattle.event.specs.Room.{Placed, event_at, onward, capacity}
use Rattle.rules.specs.View.{View, view_in, is_load, is_wall}
use Rattle.rules.specs.Fault.{Item, is_none, item, near, stays, unsupported}
use Rattle.rules.specs.Verdict.{target_item, target_answer, target_fault}
use Rattle.fates.specs.Pass.{fault_of}
use Rattle.judge.specs.Marks.{in_words}
use Rattle.judge.specs.Pass.{Marked, target_fault_by, unsupported_by}
use Rattle.fates.proofs.Arrays.{Fresh, fresh_plain, fresh_start, fresh_wall}
use Rattle.fates.proofs.Pass.{no_fault, some_fault}
use Rattle.fates.proofs.Passes.{plain}
use Rattle.sight.proofs.Events.{onward_next, place_in}
use Rattle.sight.proofs.Sight.{Sees, a_load_lem, a_store, a_wall_lem, sees_in}
use Rattle.judge.proofs.Onward.{target_goes, target_stops}

-- the answer from the events of a room
abbrev pub whole : List Bool → List ℕ → List ℕ → Answer
whole regs ns room = target_answer (view_in regs) ns 1 [] (onward room 0 (capacity room))

-- the events before the index are passed, by the numbers that some entries name
pub record Passed (regs : List Bool) (ns room : List ℕ) (fresh : List Bool) (k : ℕ) : Type 0 where
  pub behind : List Item
  pub fresh_is : Fresh fresh behind
  pub answers : whole regs ns room ≡ target_answer (view_in regs) ns (k + 1) behind (onward room k (capacity room - k))

pub record Along (regs : List Bool) (room marks : List ℕ) (fresh : List Bool) (k : ℕ) : Type 0 where
  pub size : length fresh ≡ places
  pub passed : (ns : List ℕ) → Marked marks ns → Passed regs ns room fresh k

pub along_start : (regs : List Bool) (room marks : List ℕ) → Along regs room marks (replicate places true) 0
along_start regs room marks =
    let e : capacity room - 0 ≡ capacity room = omega arith in
    record { size = refl; passed = λ ns m. record { behind = []; fresh_is = fresh_start; answers = rw e } }

-- by what is seen of the event
unsupported_at : {v : View} {p x : ℕ} {u : Bool} (b : List Item) (sourced : Bool) (k : ℕ) → Sees v p x u
    → unsupported b (item v (stays (not sourced) k)) ≡ unsupported_by sourced (is_load v) (is_none (near p b))
unsupported_at b true k s = refl
unsupported_at b false k a_wall_lem = refl
unsupported_at b false k a_load_lem = refl
unsupported_at b false k a_store = refl

fault_told : (regs : List Bool) (b : List Item) (ns : List ℕ) (k : ℕ) (e : Event) {i : ℕ} {u s l f : Bool} → s ≡ has k ns
    → l ≡ is_load (view_in regs e) → i ≡ e.place → f ≡ is_none (near i b) → u ≡ unsupported_by s l f
    → target_fault e.kind b (target_item (view_in regs) ns k e) ≡ target_fault_by e.kind u
fault_told regs b ns k e p q i g u =
    ap (target_fault_by e.kind) (unsupported_at b (has k ns) k (sees_in regs e) ∙ sym (u ∙ rw (p, q, g, i)))

module _ {regs : List Bool} {room marks : List ℕ} {fresh : List Bool} {k : ℕ} (t : Along regs room marks fresh k) where
  pub along_all : capacity room ≤ k → (ns : List ℕ) → Marked marks ns → done ≡ whole regs ns room
  unfolding onward target_answer
  along_all h ns m = let e : capacity room - k ≡ 0 = omega arith in sym ((t.passed ns m).answers ∙ rw e)

  -- the event at the index, at the location p
  module _ (low : Placed room) (few : capacity room ≤ event_limit) (h : k < capacity room) (e : Event) (q : e ≡ event_at room k) {p : ℕ} (r : p ≡ e.place)
      {sourced load unfit : Bool} (s : sourced ≡ in_words marks (k + 1)) (l : load ≡ is_load (view_in regs e))
      (u : unfit ≡ unsupported_by sourced load (get_or fresh p false)) where
    pub place_below : p < places
    place_below = place_in room low k h e q r

    module _ (ns : List ℕ) (m : Marked marks ns) where
      abbrev before : Passed regs ns room fresh k
      before = t.passed ns m

      abbrev now : Item
      now = target_item (view_in regs) ns (k + 1) e

      told : target_fault e.kind before.behind now ≡ target_fault_by e.kind unfit
      told = fault_told regs before.behind ns (k + 1) e (s ∙ m (k + 1) (omega arith) (omega arith)) l r (before.fresh_is p place_below) u

      from_here : whole regs ns room ≡ target_answer (view_in regs) ns (k + 1) before.behind (e ∷ onward room (k + 1) (capacity room - (k + 1)))
      from_here = before.answers ∙ rw (onward_next room (capacity room) k e h q)

      goes_on : None ≡ fault_of (target_fault_by e.kind unfit) → {next : List Bool} → Fresh next (now ∷ before.behind) → Passed regs ns room next (k + 1)
      goes_on z f = record {
        behind = now ∷ before.behind;
        fresh_is = f;
        answers =
            from_here
            ∙ (target_goes (view_in regs) ns (k + 1) before.behind e _ (told ∙ no_fault (target_fault_by e.kind unfit) z) ∙ rw (← add-one (k + 1)));
      }

      pub along_stops : {f : ℕ} → Some f ≡ fault_of (target_fault_by e.kind unfit) → {a : Answer} → a ≡ answer f 2 (k + 1)
          → Refuses a × (a ≡ whole regs ns room)
      along_stops z g =
          let y = some_fault (target_fault_by e.kind unfit) z in
          (rw (g, ne_eqb _ 0 y.1), g ∙ sym (from_here ∙ target_stops (view_in regs) ns _ _ _ _ y.1 (told ∙ y.0)))

    module _ (z : None ≡ fault_of (target_fault_by e.kind unfit)) where
      pub along_wall : is_wall (view_in regs e) ≡ true → Along regs room marks (replicate places true) (k + 1)
      along_wall w = record {
        size = refl;
        passed = λ ns m. goes_on ns m z (fresh_wall (view_in regs e) w _ (before ns m).behind);
      }

      pub along_plain : is_wall (view_in regs e) ≡ false → Along regs room marks (set fresh p false) (k + 1)
      along_plain w = record {
        size = simp length-set t.size;
        passed = λ ns m. goes_on ns m z (fresh_plain (plain (sees_in regs e) w) _ (before ns m).behind fresh r place_below t.size (before ns m).fresh_is);
      }
