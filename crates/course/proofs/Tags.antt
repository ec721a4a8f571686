-- What the entries say of an event, as a test and a number, is its fate. Assumes nothing.
use mathlib.Core.Path.{◌≡◌, refl, ◌∙◌, ap}
use mathlib.Core.Bool.{Bool, true, false, not, ◌&&◌}
use mathlib.Core.List.{List, [], ◌∷◌}
use Prim.Native.Nat.{ℕ, zero, suc}
use native.Mathlib.Omega.{arith}
use lib.Dec.{T, ltb, ltb→lt, lt→ltb}
use lib.ListN.{get_or}
use Rattle.laws.proofs.Lists.{Each}
use Rattle.laws.specs.Has.{has}
use Rattle.event.specs.declared.Event.{Event}
use Rattle.rules.specs.View.{View}
use Rattle.rules.specs.Run.{Tag, old, new, Traced, traced, tag_of, origin, Ends}
use Rattle.rules.specs.Fault.{Fate, gone, stays, item, fate, is_gone}
use Rattle.rules.proofs.Item.{Gone, Above}
use Rattle.rules.proofs.Origin.{fates, origin_fate}
use Rattle.rules.proofs.Entries.{from_start}
use Rattle.rules.proofs.Traced.{Leaves, Overtakes}
use Rattle.course.specs.Step.{leaves, target_number, overtakes, any_gone}

-- a fate as a test and a number
pub data Fated : Fate → Bool → ℕ → Type 0 where
  lost : Fated gone true 0
  kept : {w : Bool} {n : ℕ} → Fated (stays w n) false n

fated₁ : (n : ℕ) → Fated (fate n) (is_gone n) n
fated₁ zero = lost
fated₁ (suc n) = kept

pub fated : (ns : List ℕ) (g : Tag) → Fated (fates ns g) (leaves ns g) (target_number ns g)
fated ns (old zero) = lost
fated ns (old (suc i)) = fated₁ (get_or ns i 0)
fated ns (new k) = kept

gone_of : (v : View) {f : Fate} {c : Bool} {n : ℕ} → Fated f c n → (T c → Gone (item v f)) × (Gone (item v f) → T c)
gone_of v lost = (λ h. h, λ h. h)
gone_of v kept = (λ h. h, λ h. h)

overtakes_of : (v v' : View) {f f' : Fate} {c c' : Bool} {n n' : ℕ} → Fated f c n → Fated f' c' n'
    → (T (not c' && ltb n' n) → Above (item v f) (item v' f')) × (Above (item v f) (item v' f') → T (not c' && ltb n' n))
overtakes_of v v' lost lost = (λ h. h, λ h. h)
overtakes_of v v' lost (kept {n = n'}) = (λ h. let k = ltb→lt n' 0 h in absurd (omega arith), λ h. absurd h)
overtakes_of v v' kept lost = (λ h. h, λ h. h)
overtakes_of v v' (kept {n = n}) (kept {n = n'}) = (ltb→lt n' n, lt→ltb n' n)

at_number : {f : Fate} {c : Bool} {n : ℕ} (w : Bool) (k : ℕ) → Fated f c n → f ≡ stays w k → (c ≡ false) × (n ≡ k)
at_number w k lost e = let z : ◌≡◌ {A = ℕ} 0 1 = cc in absurd (omega arith)
at_number w k kept e = (refl, cc)

module _ (view : Event → View) (s t : List Event) (ns : List ℕ) where
  pub if_leaves : (x : Traced) → (T (leaves ns (tag_of x)) → Leaves view s t ns x) × (Leaves view s t ns x → T (leaves ns (tag_of x)))
  if_leaves (traced g e) = gone_of (view e) (fated ns g)

  pub if_overtakes : (x z : Traced) → (T (overtakes ns (tag_of x) (tag_of z)) → Overtakes view s t ns x z) × (Overtakes view s t ns x z
      → T (overtakes ns (tag_of x) (tag_of z)))
  if_overtakes (traced g e) (traced g' e') = overtakes_of (view e) (view e') (fated ns g) (fated ns g')

module _ (ns : List ℕ) where
  -- an event is not gone; events stand at their numbers
  abbrev pub Stands : Traced → Type 0
  Stands x = leaves ns (tag_of x) ≡ false

  abbrev pub Numbers : ℕ → List Traced → Type 0
  Numbers k [] = Unit {0}
  Numbers k (x ∷ u) = (target_number ns (tag_of x) ≡ k) × Numbers (suc k) u

  pub ended_at : (k : ℕ) (g : Tag) → g ≡ origin (suc k) 1 ns → (leaves ns g ≡ false) × (target_number ns g ≡ suc k)
  ended_at k g h = at_number (not (has (suc k) ns)) (suc k) (fated ns g) (ap (fates ns) h ∙ origin_fate ns k 0 ns (from_start 0 ns))

  pub stand : (k : ℕ) (u : List Traced) (r : List Event) → Ends ns (suc k) u r → Each Stands u
  stand k [] r h = tt
  stand k (x ∷ u) [] h = absurd h
  stand k (x ∷ u) (e ∷ r) h = ((ended_at k (tag_of x) h.0).0, stand (suc k) u r h.2)

  pub numbers : (k : ℕ) (u : List Traced) (r : List Event) → Ends ns (suc k) u r → Numbers (suc k) u
  numbers k [] r h = tt
  numbers k (x ∷ u) [] h = absurd h
  numbers k (x ∷ u) (e ∷ r) h = ((ended_at k (tag_of x) h.0).1, numbers (suc k) u r h.2)

  pub none_gone : (u : List Traced) → Each Stands u → any_gone ns u ≡ false
  none_gone [] h = refl
  none_gone (x ∷ u) h = rw h.0 (none_gone u h.1)
