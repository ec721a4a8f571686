-- The faults are tests that compute; here each is the statement that the theory speaks of. Assumes nothing.
use mathlib.Core.Path.{◌≡◌, refl, sym, ap, subst}
use mathlib.Core.Logic.{◌≢◌, ◌↔◌}
use mathlib.Core.Bool.{Bool, true, false, not, ◌&&◌, ◌||◌}
use mathlib.Core.Option.{Option, none, some, some-ne-none, some-injective}
use mathlib.Core.List.{List, [], ◌∷◌}
use Prim.Native.Nat.{ℕ}
use lib.Dec.{T, eqb, eqb→eq, eqb_refl, ltb→lt, lt→ltb}
use Rattle.laws.proofs.Lists.{Each}
use Rattle.rules.specs.Fault.{group, near, Item, above, closing, crossed, gone, is, is_none, item, load_gone, stays, store_gone, unsupported, view_of}
use Rattle.rules.specs.Fault.{wall_gone, witness}
use Rattle.rules.specs.View.{View, apart, load, store, wall}
use Rattle.rules.proofs.Item.{Above, Clash, Sound₁, Supported₁}

-- a test that fails exactly where a statement holds
abbrev pub Unless : Bool → Type 0 → Type 0
Unless c X = (T (not c) → X) × (X → T (not c))

unless_or : (c d : Bool) {X Y : Type 0} → Unless c X → Unless d Y → Unless (c || d) (X × Y)
unless_or true d f g = (λ t. absurd t, λ h. f.1 h.0)
unless_or false d f g = (λ t. (f.0 tt, g.0 t), λ h. g.1 h.1)

-- a test that a premise holds, and another that its conclusion does not
unless_and : (c d : Bool) {X Y : Type 0} → (T c → X) × (X → T c) → Unless d Y → Unless (c && d) (X → Y)
unless_and true d f g = (λ t _. g.0 t, λ h. g.1 (h (f.0 tt)))
unless_and false d f g = (λ _ x. absurd (f.1 x), λ _. tt)

unless_T : (c : Bool) → Unless (not c) (T c)
unless_T true = (λ t. t, λ t. t)
unless_T false = (λ t. t, λ t. t)

unless_not : (c : Bool) {X : Type 0} → (T c → X) × (X → T c) → Unless (not c) X
unless_not true f = f
unless_not false f = f

never : Unless false (Unit {0})
never = (λ t. t, λ t. t)

always : Unless true ⊥
always = (λ t. t, λ t. t)

plainly : (c : Bool) → (T c → T c) × (T c → T c)
plainly c = (λ t. t, λ t. t)

unless_none : (o : Option View) → Unless (is_none o) (o ≢ none)
unless_none none = (λ t. absurd t, λ h. h refl)
unless_none (some e) = (λ _. some-ne-none e, λ _. tt)

if_is : (o : Option ℕ) (v : ℕ) → (T (is v o) → o ≡ some v) × (o ≡ some v → T (is v o))
if_is none v = (λ t. absurd t, λ e. some-ne-none v (sym e))
if_is (some m) v = (λ t. ap some (eqb→eq m v t), λ e. subst (λ z. T (eqb m z)) (some-injective m v e) (eqb_refl m))

-- ---- 11, 13, 14

pub lost_test : (b : List Item) (x : Item) (a : List Item) → (T (not (wall_gone x)) × T (not (load_gone b x)) × T (not (store_gone b x a))) ↔ Sound₁ b x a
lost_test b (item v (stays w n)) a = (λ _. tt, λ _. (tt, tt, tt))
lost_test b (item wall gone) a = (λ h. h.0, λ h. absurd h)
lost_test b (item (load p v u) gone) a =
    let w = unless_and u (is_none (near p b)) (plainly u) (unless_none (near p b)) in
    (λ h. w.0 h.1, λ h. (tt, w.1 h, tt))
lost_test b (item (store p v) gone) a =
    let w = unless_and (closing (group p a)) (not (is v (witness (group p b)))) (plainly (closing (group p a)))
    (unless_not (is v (witness (group p b))) (if_is (witness (group p b)) v)) in
    (λ h. w.0 h.2, λ h. (tt, tt, w.1 h))

-- ---- 12

pub if_above : (e f : Item) → (T (above e f) → Above e f) × (Above e f → T (above e f))
if_above (item v gone) f = plainly false
if_above (item v (stays w n)) (item v' gone) = plainly false
if_above (item v (stays w n)) (item v' (stays w' n')) = (ltb→lt n' n, lt→ltb n' n)

pub crossed_test : (b : List Item) (x : Item) → Unless (crossed b x) (Each (λ y. Clash y x) b)
crossed_test [] x = never
crossed_test (y ∷ b) x =
    unless_or (above y x && not (apart (view_of y) (view_of x))) (crossed b x)
    (unless_and (above y x) (not (apart (view_of y) (view_of x))) (if_above y x) (unless_T (apart (view_of y) (view_of x)))) (crossed_test b x)

-- ---- 15, 16

pub extra_test : (b : List Item) (x : Item) → Unless (unsupported b x) (Supported₁ b x)
extra_test b (item v gone) = never
extra_test b (item v (stays false n)) = never
extra_test b (item wall (stays true n)) = always
extra_test b (item (load p v u) (stays true n)) = unless_none (near p b)
extra_test b (item (store p v) (stays true n)) = always
