-- Why one walk finds which events stay. The flags of the events passed are those that they would have if the trace ended here: one event more changes none
-- of them, but that a store takes the flag of the last store to its location, which is overwritten now. Assumes nothing.
use Prim.Native.Nat.{ℕ, suc, ◌+◌, ◌-◌, ◌≤◌, ◌<◌}
use mathlib.Core.Path.{◌≡◌, refl, sym, ◌∙◌, ap, ap₂}
use mathlib.Core.Logic.{◌≢◌}
use mathlib.Core.Bool.{Bool, true, false, not, cond, ◌&&◌, ◌||◌, false≢true}
use mathlib.Core.Option.{Option, none, some}
use mathlib.Core.List.{List, [], ◌∷◌, ◌++◌, append_assoc}
use native.Mathlib.Omega.{arith}
use native.Mathlib.Numerals.{add-one}
use lib.Dec.{eqb}
use lib.ListN.{length, get_or, set, take, replicate, length-append, length-set, get_or-replicate}
use lib.Seq.{get_or-set_same, get_or-set_other, set_at, set-append_left, take-suc-set, take-set-lt}
use borrow.Author.Tests.{eq-eqb, ne_eqb, eqb-true, eqb-false}
use Rattle.laws.proofs.Cases.{cases, either}
use Rattle.event.specs.Limit.{places, event_limit}
use Rattle.rules.specs.View.{View, wall, load, store, is_load, is_wall}
use Rattle.rules.specs.Fault.{is_none}
use Rattle.fates.proofs.Passes.{PlainAt, plain, plain_load, plain_store}
use Rattle.sight.proofs.Sight.{Sees, a_load_lem, a_store, a_wall_lem}
use Rattle.shelf.specs.Short.{elder, first, stored, loaded, stays, flags}
use Rattle.shelf.proofs.First.{by_eq}
use denote.Enum.Bare.{sameb}
use Rattle.shorten.specs.contracts.stay.Begun.{the_type}
use Rattle.shorten.specs.declared.stay.Begun.{Begun}
use Rattle.shorten.specs.declared.stay.Begun.TheVariants.{Not, ByLoad, ByStore}
use Rattle.shorten.specs.Stay.{is_not, is_by_load, stays_at, begun_after, value_after, last_after, overwrites, unflagged}

-- ---- flags

-- the flags of the events b, the oldest first, where the events a come after them
abbrev pub passed : List View → List View → List Bool
passed [] a = []
passed (x ∷ b) a = passed b (x ∷ a) ++ (stays b x a ∷ [])

pub passed_length : (b a : List View) → length (passed b a) ≡ length b
passed_length [] a = refl
passed_length (x ∷ b) a = omega (arith, length-append (passed b (x ∷ a)) (stays b x a ∷ []), passed_length b (x ∷ a))

-- the next event is passed
pub flags_on : (b : List View) (x : View) (a : List View) → passed b (x ∷ a) ++ flags b (x ∷ a) ≡ passed (x ∷ b) a ++ flags (x ∷ b) a
flags_on b x a = sym (append_assoc (passed b (x ∷ a)) (stays b x a ∷ []) (flags (x ∷ b) a))

-- the number of the last store to a location since the last synchronising event; 0 for none
abbrev pub last_of : ℕ → List View → ℕ
last_of l [] = 0
last_of l (wall ∷ b) = 0
last_of l (load p v u ∷ b) = last_of l b
last_of l (store p v ∷ b) = cond (eqb l p) (suc (length b)) (last_of l b)

last_within : (l : ℕ) (b : List View) → last_of l b ≤ length b
last_within l [] = omega arith
last_within l (wall ∷ b) = omega arith
last_within l (load p v u ∷ b) = omega (arith, last_within l b)
last_within l (store p v ∷ b) = by_eq (λ c. cond c (suc (length b)) (last_of l b) ≤ suc (length b)) l p (λ _. omega arith) (λ _. omega (arith, last_within l b))

-- what comes after matters by the stores in it
or_same : (c d e : Bool) → (c ≡ false → d ≡ e) → (c || d) ≡ (c || e)
or_same true d e h = refl
or_same false d e h = h refl

stays_same : (b : List View) (x : View) (a c : List View) → ((l : ℕ) → stored l a ≡ stored l c) → stays b x a ≡ stays b x c
stays_same b wall a c h = refl
stays_same b (load p v u) a c h = refl
stays_same b (store p v) a c h = ap (λ y. not y && not (loaded v (first p b))) (h p)

stored_same : (x : View) (a c : List View) → ((l : ℕ) → stored l a ≡ stored l c) → (l : ℕ) → stored l (x ∷ a) ≡ stored l (x ∷ c)
stored_same wall a c h l = refl
stored_same (load p v u) a c h l = h l
stored_same (store p v) a c h l = ap (λ y. eqb l p || y) (h l)

passed_same : (b a c : List View) → ((l : ℕ) → stored l a ≡ stored l c) → passed b a ≡ passed b c
passed_same [] a c h = refl
passed_same (x ∷ b) a c h = ap₂ (λ (y : List Bool) (z : Bool). y ++ (z ∷ [])) (passed_same b (x ∷ a) (x ∷ c) (stored_same x a c h)) (stays_same b x a c h)

-- a flag taken away before others
unflag_before : (xs ys : List Bool) (k : ℕ) → k ≤ length xs → unflagged (xs ++ ys) k ≡ unflagged xs k ++ ys
unflag_before xs ys k h =
    cases (either (eqb k 0)) (λ e. rw e) (λ e. let n = eqb-false k 0 e in rw e (set-append_left xs ys (k - 1) false (omega arith)))

unflag_last : (xs : List Bool) (c : Bool) (k : ℕ) → k ≡ suc (length xs) → unflagged (xs ++ (c ∷ [])) k ≡ xs ++ (false ∷ [])
unflag_last xs c k h = rw (ne_eqb k 0 (λ z. omega arith)) (set_at xs c [] false (k - 1) (omega arith))

-- with a store to p among what comes after, where there was none, the last store to p is overwritten, and nothing else changes
overwrite : (p : ℕ) (b a c : List View) → ((l : ℕ) → l ≢ p → stored l a ≡ stored l c) → stored p a ≡ false → stored p c ≡ true
    → passed b c ≡ unflagged (passed b a) (last_of p b)
overwrite p [] a c h f t = refl
overwrite p (wall ∷ b) a c h f t = ap (λ (y : List Bool). y ++ (true ∷ [])) (passed_same b (wall ∷ c) (wall ∷ a) (λ l. refl))
overwrite p (load q w u ∷ b) a c h f t =
    ap (λ (y : List Bool). y ++ ((u && is_none (first q b)) ∷ [])) (overwrite p b (load q w u ∷ a) (load q w u ∷ c) h f t)
    ∙ sym (unflag_before (passed b (load q w u ∷ a)) _ (last_of p b) (omega (arith, last_within p b, passed_length b (load q w u ∷ a))))
overwrite p (store q w ∷ b) a c h f t =
    go (eqb p q) refl
    (λ ne. overwrite p b (store q w ∷ a) (store q w ∷ c) (λ l z. ap (λ y. eqb l q || y) (h l z)) (rw (ne_eqb p q ne) f) (rw (ne_eqb p q ne) t))
  where
    go : (d : Bool) → eqb p q ≡ d → (p ≢ q → passed b (store q w ∷ c) ≡ unflagged (passed b (store q w ∷ a)) (last_of p b))
        → passed b (store q w ∷ c) ++ (stays b (store q w) c ∷ []) ≡ unflagged (passed b (store q w ∷ a) ++ (stays b (store q w) a ∷ [])) (cond d (suc (length b)) (last_of p b))
    go true e ih =
        let i : p ≡ q = eqb-true p q e in
        let k : stored q c ≡ true = rw i at t in
        ap₂ (λ (y : List Bool) (z : Bool). y ++ (z ∷ []))
        (passed_same b (store q w ∷ c) (store q w ∷ a) (λ l. or_same (eqb l q) (stored l c) (stored l a) (λ z. sym (h l (λ j. eqb-false l q z (j ∙ i))))))
        (ap (λ y. not y && not (loaded w (first q b))) k)
        ∙ sym (unflag_last (passed b (store q w ∷ a)) _ (suc (length b)) (ap suc (sym (passed_length b (store q w ∷ a)))))
    go false e ih =
        let ne : p ≢ q = eqb-false p q e in
        ap₂ (λ (y : List Bool) (z : Bool). y ++ (z ∷ [])) (ih ne) (ap (λ y. not y && not (loaded w (first q b))) (sym (h q (λ z. ne (sym z)))))
        ∙ sym (unflag_before (passed b (store q w ∷ a)) _ (last_of p b) (omega (arith, last_within p b, passed_length b (store q w ∷ a))))

-- ---- the first access to a location

-- comparing with a beginning asks for it
pub same_not : (b : Begun) → sameb the_type b Not ≡ is_not b
same_not Not = refl
same_not ByLoad = refl
same_not ByStore = refl

pub same_by_load : (b : Begun) → sameb the_type b ByLoad ≡ is_by_load b
same_by_load Not = refl
same_by_load ByLoad = refl
same_by_load ByStore = refl

-- how the accesses began, and with what value, tells what the first one is
abbrev pub Knows : Option View → Begun → ℕ → Type 0
Knows o begun value = (is_not begun ≡ is_none o) × ((x : ℕ) → (is_by_load begun && eqb value x) ≡ loaded x o)

knows_after : {v : View} {p x : ℕ} → PlainAt v p x → (o : Option View) (begun : Begun) (value : ℕ) → Knows o begun value
    → Knows (elder o v) (begun_after (is_load v) begun) (value_after begun value x)
knows_after w o begun value h = go w o (is_not begun) h.0 h
  where
    go : {v : View} {p x : ℕ} → PlainAt v p x → (o : Option View) (c : Bool) → c ≡ is_none o → Knows o begun value
        → Knows (elder o v) (cond c (cond (is_load v) ByLoad ByStore) begun) (cond c x value)
    go plain_load none true e h = (refl, λ x. refl)
    go plain_store none true e h = (refl, λ x. refl)
    go w none false e h = absurd (false≢true e)
    go w (some y) true e h = absurd (false≢true (sym e))
    go w (some y) false e h = h

-- ---- the walk

cell_in : {A : Type 0} (d : A) (cells : List A) (p : ℕ) (v : A) (l : ℕ) → p < length cells → get_or (set cells p v) l d ≡ cond (eqb l p) v (get_or cells l d)
cell_in d cells p v l h =
    by_eq (λ c. get_or (set cells p v) l d ≡ cond c v (get_or cells l d)) l p (λ i. rw i (get_or-set_same cells p v d h)) (λ ne. get_or-set_other cells p l v d ne)

cell_after : (cells : List ℕ) (p v l : ℕ) → p < length cells → get_or (set cells p v) l 0 ≡ cond (eqb l p) v (get_or cells l 0)
cell_after = cell_in 0

-- what is known when the events b are passed
pub record Walked (b : List View) (n : ℕ) (flags : List Bool) (begun : List Begun) (values last : List ℕ) : Type 0 where
  pub count : n ≡ length b
  pub flags_size : length flags ≡ event_limit
  pub begun_size : length begun ≡ places
  pub values_size : length values ≡ places
  pub last_size : length last ≡ places
  pub flagged : take n flags ≡ passed b []
  pub known : (l : ℕ) → l < places → Knows (first l b) (get_or begun l Not) (get_or values l 0)
  pub stores : (l : ℕ) → l < places → get_or last l 0 ≡ last_of l b

pub walked_start : Walked [] 0 (replicate event_limit false) (replicate places Not) (replicate places 0) (replicate places 0)
walked_start = record {
  count = refl;
  flags_size = refl;
  begun_size = refl;
  values_size = refl;
  last_size = refl;
  flagged = refl;
  known = λ l h. rw (get_or-replicate {A = Begun} places l Not Not h) (refl, λ x. refl);
  stores = λ l h. get_or-replicate {A = ℕ} places l 0 0 h;
}

module _ {b : List View} {n : ℕ} {fs : List Bool} {begun : List Begun} {values last : List ℕ} (w : Walked b n fs begun values last) (few : n < event_limit) where
  -- the flag of one event more, and those before
  flag_next : (gs : List Bool) (c : Bool) (x : View) → length gs ≡ event_limit → take n gs ≡ passed b (x ∷ []) → c ≡ stays b x [] → take (n + 1) (set gs n c) ≡ passed (x ∷ b) []
  flag_next gs c x size h k =
      let z : n < length gs = omega arith in
      rw (add-one n) (take-suc-set gs n c z ∙ ap₂ (λ (y : List Bool) (d : Bool). y ++ (d ∷ [])) h k)

  pub walked_wall : (v : View) → is_wall v ≡ true → Walked (v ∷ b) (n + 1) (set fs n true) (replicate places Not) values (replicate places 0)
  walked_wall wall h = record {
    count = omega (arith, w.count);
    flags_size = simp length-set w.flags_size;
    begun_size = refl;
    values_size = w.values_size;
    last_size = refl;
    flagged = flag_next fs true wall w.flags_size (w.flagged ∙ passed_same b [] (wall ∷ []) (λ l. refl)) refl;
    known = λ l h. rw (get_or-replicate {A = Begun} places l Not Not h) (refl, λ x. refl);
    stores = λ l h. get_or-replicate {A = ℕ} places l 0 0 h;
  }
  walked_wall (load p v u) h = absurd (false≢true h)
  walked_wall (store p v) h = absurd (false≢true h)

  -- the cell of a plain event's location
  module _ {v : View} {p x : ℕ} (at : PlainAt v p x) (inside : p < places) where
    abbrev was : Begun
    was = get_or begun p Not

    abbrev value : ℕ
    value = get_or values p 0

    abbrev store_is : ℕ
    store_is = get_or last p 0

    first_after : (l : ℕ) → first l (v ∷ b) ≡ cond (eqb l p) (elder (first l b) v) (first l b)
    first_after l = go at
      where
        go : {v : View} {p x : ℕ} → PlainAt v p x → first l (v ∷ b) ≡ cond (eqb l p) (elder (first l b) v) (first l b)
        go plain_load = refl
        go plain_store = refl

    known_after : (l : ℕ) → l < places
        → Knows (first l (v ∷ b)) (get_or (set begun p (begun_after (is_load v) was)) l Not) (get_or (set values p (value_after was value x)) l 0)
    known_after l h =
        rw (
          first_after l,
          (cell_in Not begun p (begun_after (is_load v) was) l (omega (arith, w.begun_size))),
          (cell_after values p (value_after was value x) l (omega (arith, w.values_size))),
        )
        (by_eq (λ c. Knows (cond c (elder (first l b) v) (first l b)) (cond c (begun_after (is_load v) was) (get_or begun l Not)) (cond c (value_after was value x) (get_or values l 0))) l p
        (λ i. rw i (knows_after at (first p b) was value (w.known p inside))) (λ _. w.known l h))

    stores_after_lem : (l : ℕ) → l < places → get_or (set last p (last_after (is_load v) store_is (n + 1))) l 0 ≡ last_of l (v ∷ b)
    stores_after_lem l h = cell_after last p (last_after (is_load v) store_is (n + 1)) l (omega (arith, w.last_size)) ∙ go at (w.stores p inside)
      where
        go : {v : View} {p x : ℕ} → PlainAt v p x → get_or last p 0 ≡ last_of p b
            → cond (eqb l p) (last_after (is_load v) (get_or last p 0) (n + 1)) (get_or last l 0) ≡ last_of l (v ∷ b)
        go (plain_load {p}) e = by_eq (λ c. cond c (get_or last p 0) (get_or last l 0) ≡ last_of l b) l p (λ i. rw i e) (λ _. w.stores l h)
        go (plain_store {p}) e =
            by_eq (λ c. cond c (n + 1) (get_or last l 0) ≡ cond c (suc (length b)) (last_of l b)) l p (λ _. omega (arith, w.count)) (λ _. w.stores l h)

    -- the flags before, as the event leaves them
    flags_after : (take n (unflagged fs (overwrites (is_load v) store_is)) ≡ passed b (v ∷ []))
        × (length (unflagged fs (overwrites (is_load v) store_is)) ≡ event_limit)
    flags_after = go at (w.stores p inside)
      where
        shorter : (k : ℕ) → k ≤ n → (take n (unflagged fs k) ≡ unflagged (take n fs) k) × (length (unflagged fs k) ≡ event_limit)
        shorter k h =
            cases (either (eqb k 0)) (λ e. rw e (refl, w.flags_size))
            (λ e. let z = eqb-false k 0 e in rw e (take-set-lt n fs (k - 1) false (omega arith), simp length-set w.flags_size))

        go : {v : View} {p x : ℕ} → PlainAt v p x → get_or last p 0 ≡ last_of p b
            → (take n (unflagged fs (overwrites (is_load v) (get_or last p 0))) ≡ passed b (v ∷ []))
            × (length (unflagged fs (overwrites (is_load v) (get_or last p 0))) ≡ event_limit)
        go (plain_load {p} {x} {u}) e = (w.flagged ∙ passed_same b [] (load p x u ∷ []) (λ l. refl), w.flags_size)
        go (plain_store {p} {x}) e =
            let s = shorter (last_of p b) (omega (arith, last_within p b, w.count)) in
            rw e (
              s.0 ∙ ap (λ (y : List Bool). unflagged y (last_of p b)) w.flagged
                  ∙ sym (overwrite p b [] (store p x ∷ []) (λ l z. rw (ne_eqb l p z)) refl (rw (eq-eqb p p refl))),
              s.1,
            )

    pub walked_plain : (c : Bool) → c ≡ stays b v [] → Walked (v ∷ b) (n + 1) (set (unflagged fs (overwrites (is_load v) store_is)) n c)
        (set begun p (begun_after (is_load v) was)) (set values p (value_after was value x)) (set last p (last_after (is_load v) store_is (n + 1)))
    walked_plain c k = record {
      count = omega (arith, w.count);
      flags_size = simp length-set flags_after.1;
      begun_size = simp length-set w.begun_size;
      values_size = simp length-set w.values_size;
      last_size = simp length-set w.last_size;
      flagged = flag_next (unflagged fs (overwrites (is_load v) store_is)) c v flags_after.1 flags_after.0 k;
      known = known_after;
      stores = stores_after_lem;
    }

  -- whether it stays, by what is known
  pub stays_known : {v : View} {p x : ℕ} {u : Bool} → Sees v p x u → is_wall v ≡ false → p < places
      → stays_at (is_load v) u (get_or begun p Not) (get_or values p 0) x ≡ stays b v []
  stays_known a_wall_lem h i = absurd (false≢true (sym h))
  stays_known (a_load_lem {p} {v} {u}) h i = ap (λ c. u && c) (w.known p i).0
  stays_known (a_store {p} {v}) h i = ap not ((w.known p i).1 v)

  -- as the walk computes it, at an index that is its location
  pub walked_by : {v : View} {p x : ℕ} {u : Bool} → Sees v p x u → is_wall v ≡ false → p < places → {i : ℕ} {d : Bool} → i ≡ p → d ≡ is_load v
      → {k : ℕ} {gs : List Bool} → k ≡ overwrites d (get_or last i 0) → gs ≡ unflagged fs k
      → {c : Bool} → c ≡ stays_at d u (get_or begun i Not) (get_or values i 0) x → {g : Begun} {y m : ℕ} → g ≡ begun_after d (get_or begun i Not)
      → y ≡ value_after (get_or begun i Not) (get_or values i 0) x → m ≡ last_after d (get_or last i 0) (n + 1)
      → Walked (v ∷ b) (n + 1) (set gs n c) (set begun i g) (set values i y) (set last i m)
  walked_by {u = u} s h inside e f k gs c g y m = rw (gs, k, c, g, y, m, e, f) (walked_plain (plain s h) inside _ (stays_known s h inside))
