-- The events of a run and their items. An event is the item of its view and of the fate that its tag and the entries give it, so a run of
-- events is a run of items; and a run of items is one of events, since what it inserts is the target's. Assumes nothing.
use mathlib.Core.Path.{subst₂, ◌≡◌, refl, sym, ◌∙◌, ap, subst}
use mathlib.Core.Bool.{Bool, true, false, not}
use mathlib.Core.List.{List, [], ◌∷◌}
use mathlib.Core.Logic.{◌≢◌, ◌↔◌}
use Prim.Native.Nat.{ℕ, zero, suc, ◌+◌, ◌<◌}
use native.Mathlib.Omega.{arith}
use lib.Dec.{T}
use lib.ListN.{length, get_or}
use Rattle.laws.proofs.Lists.{Each}
use Rattle.laws.specs.Has.{has}
use Rattle.kinds.specs.Kind.{lawful}
use Rattle.event.specs.declared.Event.{Event}
use Rattle.event.specs.Room.{no_event}
use Rattle.rules.specs.Run.{old, new, Traced, traced, tag_of, event_of, Inserted, number, origin, Ends, viewed}
use Rattle.rules.specs.View.{same, View}
use Rattle.rules.specs.Fault.{Item, fate, fate_of, item, nth, stays, view_of, unlike}
use Rattle.rules.specs.Verdict.{items, target_item}
use Rattle.rules.proofs.Matching.{Alike, like_of}
use Rattle.rules.proofs.Entries.{From, from_here, from_next, from_start, Entries, Once, within_at}
use Rattle.rules.proofs.Image.{Has, Over, over_cons, over_nil}
use Rattle.rules.proofs.Item.{Like, Likes, New, like_cons, like_nil, marks, Above, Gone}
use Rattle.rules.proofs.Target.{Print, exact, kept, print_like}
use Rattle.rules.proofs.Origin.{fates, origin_fate, fate_at, origin_new, origin_old}
use Rattle.rules.proofs.Clean.{target_items}
use Rattle.rules.proofs.Same.{same_refl}
use Rattle.rules.proofs.Truth.{not_not, yes_not}

fate_like : {e f : Item} → Like e f → fate_of e ≡ fate_of f
fate_like Like.unchanged = refl
fate_like marks = refl

module _ (view : Event → View) (s t : List Event) (ns : List ℕ) where
  abbrev pub image : Traced → Item
  image (traced g e) = item (view e) (fates ns g)

  image_view : (x : Traced) → view_of (image x) ≡ viewed view x
  image_view (traced g e) = refl

  -- an item is an event's
  abbrev pub Of : Item → Traced → Type 0
  Of y x = y ≡ image x

  pub of_view : (y : Item) (x : Traced) → Of y x → view_of y ≡ viewed view x
  of_view y x q = ap view_of q ∙ image_view x

  -- an event shows as an item, and is the one that its tag says
  abbrev pub Genuine : Traced → Type 0
  Genuine (traced (old i) e) = nth no_event s i ≡ e
  Genuine (traced (new n) e) = nth no_event t n ≡ e

  abbrev pub Shows : Traced → Item → Type 0
  Shows x y = (image x ≡ y) × Genuine x

  pub shows_view : (x : Traced) (y : Item) → Shows x y → viewed view x ≡ view_of y
  shows_view x y q = sym (image_view x) ∙ ap view_of q.0

  -- an event is gone, and one is above another, as its item is
  abbrev pub Leaves : Traced → Type 0
  Leaves x = Gone (image x)

  abbrev pub Overtakes : Traced → Traced → Type 0
  Overtakes x z = Above (image x) (image z)

  pub shows_gone : (x : Traced) (y : Item) → Shows x y → Leaves x ↔ Gone y
  shows_gone x y q = (λ g. subst Gone q.0 g, λ g. subst Gone (sym q.0) g)

  pub shows_above : (x z : Traced) (y w : Item) → Shows x y → Shows z w → Overtakes x z ↔ Above y w
  shows_above x z y w q r = (λ h. subst₂ Above q.0 r.0 h, λ h. subst₂ Above (sym q.0) (sym r.0) h)

  -- ---- the source

  pub starts : (k : ℕ) (r : List Event) (ks : List ℕ) → length ks ≡ length r → From no_event s k r → From 0 ns k ks
      → Over Shows (number (suc k) r) (items view r ks)
  starts k [] ks l f g = over_nil
  starts k (e ∷ r) [] l f g = absurd (omega arith)
  starts k (e ∷ r) (n ∷ ks) l f g =
      over_cons (ap (λ z. item (view e) (fate z)) (from_here 0 ns k n ks g), from_here no_event s k e r f)
      (starts (suc k) r ks (omega arith) (from_next no_event s k e r f) (from_next 0 ns k n ks g))

  pub turn : {u : List Traced} {v : List Item} → Over Shows u v → Over Of v u
  turn over_nil = over_nil
  turn (over_cons q o) = over_cons (sym q.0) (turn o)

  pub genuines : {u : List Traced} {v : List Item} → Over Shows u v → Each Genuine u
  genuines over_nil = tt
  genuines (over_cons q o) = (q.1, genuines o)

  pub has_item : (x : Traced) → Has Of New Inserted x
  has_item (traced (old i) e) w = absurd w
  has_item (traced (new n) e) w = (item (view e) (stays true n), tt, refl)

  -- ---- events at their numbers: the items are the target's

  module _ (alike : (e f : Event) → T (same e f) → Alike (view e) (view f)) where
    likely : (k : ℕ) (e : Event) (y : Item) (x : Traced) → Of y x → tag_of x ≡ origin (suc k) 1 ns → T (same (event_of x) e)
        → Like y (target_item view ns (suc k) e)
    likely k e y (traced g f) q h m =
        let c : fates ns g ≡ stays (not (has (suc k) ns)) (suc k) = ap (fates ns) h ∙ origin_fate ns k 0 ns (from_start 0 ns) in
        rw (q, c) (like_of refl (alike f e m))

    pub likes : (k : ℕ) (r : List Event) {v : List Item} {u : List Traced} → Over Of v u → Ends ns (suc k) u r → Likes v (target_items view ns (suc k) r)
    likes k [] over_nil h = like_nil
    likes k [] (over_cons q o) h = absurd h
    likes k (e ∷ r) over_nil h = absurd h
    likes k (e ∷ r) (over_cons {x = y} {y = x} q o) h = like_cons (likely k e y x q h.0 h.1) (likes (suc k) r o h.2)

  -- ---- items at their numbers: the events are the target's

  print_fate : {e f : Item} → Print e f → fate_of e ≡ fate_of f
  print_fate q = fate_like (print_like q)

  fresh : (c : Bool) (k : ℕ) (e : Event) → get_or t k no_event ≡ e → T (lawful e) → Has Shows Inserted New (item (view e) (stays c (suc k)))
  fresh true k e g l w = (traced (new (suc k)) e, l, (refl, g))
  fresh false k e g l w = absurd w

  new_like : {e f : Item} → Like e f → New e → New f
  new_like Like.unchanged w = w
  new_like marks w = w

  has_print : {y z : Item} → Print y z → Has Shows Inserted New z → Has Shows Inserted New y
  has_print exact h = h
  has_print (kept q no-new) h = λ w. absurd (no-new (new_like q w))

  pub has_target : (k : ℕ) (r : List Event) {v : List Item} → Over Print v (target_items view ns (suc k) r) → From no_event t k r → Each (λ e. T (lawful e)) r
      → Each (Has Shows Inserted New) v
  has_target k [] over_nil f l = tt
  has_target k (e ∷ r) (over_cons q o) f l =
      (has_print q (fresh (not (has (suc k) ns)) k e (from_here no_event t k e r f) l.0), has_target (suc k) r o (from_next no_event t k e r f) l.1)

  module _ (once : Once ns) (faithful : (j : ℕ) → T (not (unlike t (get_or s j no_event) (fate (get_or ns j 0))))) where
    ended_old : (k i : ℕ) (e f : Event) → nth 0 ns i ≡ suc k → nth no_event s i ≡ f → get_or t k no_event ≡ e
        → (old i ≡ origin (suc k) 1 ns) × T (same f e)
    ended_old k zero e f q g h = absurd (omega arith)
    ended_old k (suc i) e f q g h =
        let c : T (not (unlike t (get_or s i no_event) (fate (suc k)))) = rw q at (faithful i) in (
          sym (origin_old (suc k) 1 ns (λ z. omega arith) once i (suc i) (omega arith) q),
          rw (g, h) at (not_not (same (get_or s i no_event) (get_or t k no_event)) c),
        )

    ended_new : (k n : ℕ) (e f : Event) (c : Bool) → has (suc k) ns ≡ c → stays true n ≡ stays (not c) (suc k) → nth no_event t n ≡ f
        → get_or t k no_event ≡ e → (new n ≡ origin (suc k) 1 ns) × T (same f e)
    ended_new k n e f true c q g h = let z : true ≡ false = cc in absurd (subst T z tt)
    ended_new k n e f false c q g h =
        let i : n ≡ suc k = cc in
        let j : f ≡ e = sym g ∙ ap (nth no_event t) i ∙ h in
        (ap new i ∙ sym (origin_new (suc k) 1 ns c), rw j (same_refl e))

    ended : (k : ℕ) (x : Traced) (y : Item) (e : Event) → Shows x y → fate_of y ≡ stays (not (has (suc k) ns)) (suc k) → get_or t k no_event ≡ e
        → (tag_of x ≡ origin (suc k) 1 ns) × T (same (event_of x) e)
    ended k (traced (old i) f) y e q h g =
        ended_old k i e f (fate_at (nth 0 ns i) (not (has (suc k) ns)) (suc k) (ap fate_of q.0 ∙ h)) q.1 g
    ended k (traced (new n) f) y e q h g = ended_new k n e f (has (suc k) ns) refl (ap fate_of q.0 ∙ h) q.1 g

    pub ends : (k : ℕ) (r : List Event) {u : List Traced} {v : List Item} → Over Shows u v → Over Print v (target_items view ns (suc k) r)
        → From no_event t k r → Ends ns (suc k) u r
    ends k [] over_nil over_nil f = tt
    ends k [] (over_cons q o) w f = elim w [ ]
    ends k (e ∷ r) over_nil w f = elim w [ ]
    ends k (e ∷ r) (over_cons {x = x} {y = y} q o) (over_cons p i) f =
        let d = ended k x y e q (print_fate p) (from_here no_event t k e r f) in
        (d.0, d.1, ends (suc k) r o i (from_next no_event t k e r f))

  -- ---- a run shows no fault 10

  -- an event from the source is the one that its tag says
  abbrev pub Known : Traced → Type 0
  Known (traced (old i) e) = nth no_event s i ≡ e
  Known (traced (new n) e) = Unit {0}

  pub known_source : (k : ℕ) (r : List Event) → From no_event s k r → Each Known (number (suc k) r)
  known_source k [] f = tt
  known_source k (e ∷ r) f = (from_here no_event s k e r f, known_source (suc k) r (from_next no_event s k e r f))

  pub known_new : (x : Traced) → Inserted x → Known x
  known_new (traced (old i) e) w = absurd w
  known_new (traced (new n) e) w = tt

  found₁ : (x : Traced) (e : Event) (i : ℕ) → tag_of x ≡ old i → T (same (event_of x) e) → Known x → T (same (nth no_event s i) e)
  found₁ (traced (old j) f) e i q m g = let r : j ≡ i = cc in subst (λ z. T (same z e)) (sym g ∙ ap (nth no_event s) r) m
  found₁ (traced (new n) f) e i q m g = let z : ◌≡◌ {A = ℕ} 0 1 = cc in absurd (omega arith)

  found : (k : ℕ) (r : List Event) (u : List Traced) → Ends ns (suc k) u r → Each Known u → (j m i : ℕ) → m ≡ suc k + j → j < length r
      → origin m 1 ns ≡ old i → T (same (nth no_event s i) (get_or r j no_event))
  found k [] u h g j m i a b c = absurd (omega arith)
  found k (e ∷ r) [] h g j m i a b c = absurd h
  found k (e ∷ r) (x ∷ u) h g zero m i a b c =
      let d : suc k ≡ m = omega arith in
      found₁ x e i (h.0 ∙ (rw d c)) h.1 g.0
  found k (e ∷ r) (x ∷ u) h g (suc j) m i a b c = found (suc k) r u h.2 g.1 j m i (omega arith) (omega arith) c

  pub faithful_run : Entries (length t) s ns → (u : List Traced) → Ends ns 1 u t → Each Known u → (j : ℕ)
      → T (not (unlike t (get_or s j no_event) (fate (get_or ns j 0))))
  faithful_run w u h g j = go (get_or ns j 0) refl
    where
      go : (n : ℕ) → get_or ns j 0 ≡ n → T (not (unlike t (get_or s j no_event) (fate n)))
      go zero q = tt
      go (suc n) q =
          let ne : get_or ns j 0 ≢ 0 = λ z. omega arith in
          let b = within_at (length t) ns w.within_n j ne in
          yes_not (same (get_or s j no_event) (get_or t n no_event))
          (found 0 t u h g n (suc n) (suc j) (omega arith) (omega arith) (origin_old (suc n) 1 ns (λ z. omega arith) w.used_once j (suc j) (omega arith) q))
