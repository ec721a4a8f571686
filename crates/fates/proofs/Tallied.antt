-- What the pass from the front keeps of the source events passed: per location whether there was no access since the last synchronising event, the
-- witness and the greatest number, and the greatest numbers of all and of the synchronising ones. Assumes nothing.
use mathlib.Core.Path.{◌≡◌, refl, sym, ◌∙◌, ap, subst}
use mathlib.Core.Bool.{Bool, true, false, cond}
use mathlib.Core.Option.{some}
use Rattle.std.specs.Prelude.{Option, None, Some}
use mathlib.Core.List.{List, [], ◌∷◌}
use Prim.Native.Nat.{ℕ, ◌<◌}
use native.Mathlib.Omega.{arith}
use lib.Dec.{eqb}
use lib.ListN.{length, get_or, set, replicate, get_or-replicate, length-set}
use lib.Seq.{get_or-set_same, get_or-set_other}
use borrow.Author.Tests.{eq-eqb, eqb-false, eqb-true}
use Rattle.laws.proofs.Cases.{cases, either}
use Rattle.event.specs.Limit.{places}
use Rattle.rules.specs.View.{View, is_load, is_wall}
use Rattle.rules.specs.Fault.{Item, closing, fate, group, item, witness}
use Rattle.fates.specs.Pass.{cell_of, takes_over, top_after, tops_of, witnessed}
use Rattle.fates.specs.declared.source.Cell.{Cell}
use Rattle.fates.specs.declared.source.Tops.{Tops}
use Rattle.fates.proofs.Arrays.{Fresh, ArrayOf, fresh_plain, fresh_start, fresh_wall, array_all, array_at}
use Rattle.fates.proofs.Cells.{Right}
use Rattle.fates.proofs.Passes.{PlainAt, any, at_plain, is_at, top_next, top_by, walled, witness_at_lem}

-- ---- the witness: none where no access came since a synchronising event, else what the array has

abbrev pub witness_in : List Bool → List (Option ℕ) → ℕ → Option ℕ
witness_in fresh last l = cond (get_or fresh l false) None (get_or last l None)

abbrev pub Witnesses : List Bool → List (Option ℕ) → List Item → Type 0
Witnesses fresh last b = (l : ℕ) → l < places → witnessed (witness_in fresh last l) ≡ witness (group l b)

all_fresh : (last : List (Option ℕ)) (l : ℕ) → l < places → witness_in (replicate places true) last l ≡ None
all_fresh last l k = rw (get_or-replicate {A = Bool} places l true false k)

witness_wall : (v : View) → is_wall v ≡ true → (n : ℕ) (b : List Item) (last : List (Option ℕ)) → Witnesses (replicate places true) last (item v (fate n) ∷ b)
witness_wall v h n b last = rw (walled v h) (λ l k. ap witnessed (all_fresh last l k))

witness_plain : {v : View} {p x : ℕ} → PlainAt v p x → (n : ℕ) (b : List Item) (fresh : List Bool) (last : List (Option ℕ)) {i : ℕ} → i ≡ p → i < places
    → length fresh ≡ places → length last ≡ places → Fresh fresh b → Witnesses fresh last b → (w : Option ℕ)
    → w ≡ cond (takes_over (is_load v) n (get_or fresh i false)) (Some x) (witness_in fresh last i)
    → Witnesses (set fresh i false) (set last i w) (item v (fate n) ∷ b)
witness_plain {v} {p = p} {x = x} s n b fresh last {i} e k size size' f m w q l j =
    let here : i < length fresh = omega arith in
    let here' : i < length last = omega arith in
    cases (either (eqb l i))
    (λ z. let d : l ≡ i = eqb-true l i z in
    subst (λ x. witnessed (witness_in (set fresh i false) (set last i w) x) ≡ witness (group x (item v (fate n) ∷ b))) (sym d)
    (rw (get_or-set_same fresh i false false here, get_or-set_same {A = Option ℕ} last i w None here')
    (ap witnessed q ∙ (told (takes_over (is_load v) n (get_or fresh i false)) (witness_in fresh last i)
    ∙ sym (witness_at_lem s n b i ∙ rw (eq-eqb i p e, ← f i k, ← m i k))))))
    (λ z. let d = eqb-false l i z in
    rw (get_or-set_other fresh i l false false d, get_or-set_other {A = Option ℕ} last i l w None d)
    (m l j ∙ sym (witness_at_lem s n b l ∙ rw (← e, z))))
  where
    told : (c : Bool) (o : Option ℕ) → witnessed (cond c (Some x) o) ≡ cond c (some x) (witnessed o)
    told true o = refl
    told false o = refl

-- ---- the greatest numbers

module _ (v : View) (n : ℕ) (b : List Item) where
  -- a test that succeeds, and one that fails
  top_yes : (test : View → Bool) → test v ≡ true → {old new : ℕ} → old ≡ top_by test b → new ≡ top_after n old → new ≡ top_by test (item v (fate n) ∷ b)
  top_yes test h p q = q ∙ sym (top_next test v n b ∙ rw (h, p))

  top_no : (test : View → Bool) → test v ≡ false → {old : ℕ} → old ≡ top_by test b → old ≡ top_by test (item v (fate n) ∷ b)
  top_no test h p = p ∙ sym (top_next test v n b ∙ rw h)

abbrev pub Here : List ℕ → List Item → Type 0
Here here b = ArrayOf places 0 here (λ l. top_by (is_at l) b)

here_plain : {v : View} {p x : ℕ} → PlainAt v p x → (n : ℕ) (b : List Item) (here : List ℕ) {i : ℕ} → i ≡ p → i < places → length here ≡ places → Here here b
    → {r : ℕ} → r ≡ top_after n (get_or here i 0) → Here (set here i r) (item v (fate n) ∷ b)
here_plain {v} w n b here {i} e k size m g =
    array_at places 0 here (λ l. top_by (is_at l) b) (λ l. top_by (is_at l) (item v (fate n) ∷ b)) (λ l. top_after n (top_by (is_at l) b))
    (λ l. top_next (is_at l) v n b ∙ rw (at_plain w l)) e (g ∙ rw (m i k)) k size m

-- ---- all of it

pub record Tallied (fresh : List Bool) (last : List (Option ℕ)) (here : List ℕ) (all walls : ℕ) (b : List Item) : Type 0 where
  pub fresh_size : length fresh ≡ places
  pub last_size : length last ≡ places
  pub here_size : length here ≡ places
  pub fresh_is : Fresh fresh b
  pub witness_is : Witnesses fresh last b
  pub here_is : Here here b
  pub all_is : all ≡ top_by any b
  pub walls_is : walls ≡ top_by is_wall b

pub tallied_start : Tallied (replicate places true) (replicate places None) (replicate places 0) 0 0 []
tallied_start = record {
  fresh_size = refl;
  last_size = refl;
  here_size = refl;
  fresh_is = fresh_start;
  witness_is = λ l k. ap witnessed (all_fresh (replicate places None) l k);
  here_is = array_all places 0 0 (λ l. top_by (is_at l) []) (λ l. refl);
  all_is = refl;
  walls_is = refl;
}

module _ {fresh : List Bool} {last : List (Option ℕ)} {here : List ℕ} {all walls : ℕ} {b : List Item} (n : ℕ) (t : Tallied fresh last here all walls b) where
  pub tallied_wall : (v : View) → is_wall v ≡ true → {all' walls' : ℕ} → all' ≡ top_after n all → walls' ≡ top_after n walls
      → Tallied (replicate places true) last here all' walls' (item v (fate n) ∷ b)
  tallied_wall v h p q = record {
    fresh_size = refl;
    last_size = t.last_size;
    here_size = t.here_size;
    fresh_is = fresh_wall v h (fate n) b;
    witness_is = witness_wall v h n b last;
    here_is = λ l k. top_no v n b (is_at l) (rw (walled v h)) (t.here_is l k);
    all_is = top_yes v n b any refl t.all_is p;
    walls_is = top_yes v n b is_wall h t.walls_is q;
  }

  pub tallied_plain : {v : View} {p x : ℕ} → PlainAt v p x → is_wall v ≡ false → {i : ℕ} → i ≡ p → i < places
      → {all' r : ℕ} → all' ≡ top_after n all → r ≡ top_after n (get_or here i 0) → (w : Option ℕ)
      → w ≡ cond (takes_over (is_load v) n (get_or fresh i false)) (Some x) (witness_in fresh last i)
      → Tallied (set fresh i false) (set last i w) (set here i r) all' walls (item v (fate n) ∷ b)
  tallied_plain {v} s h e k p r w q = record {
    fresh_size = simp length-set t.fresh_size;
    last_size = simp length-set t.last_size;
    here_size = simp length-set t.here_size;
    fresh_is = fresh_plain s (fate n) b fresh e k t.fresh_size t.fresh_is;
    witness_is = witness_plain s n b fresh last e k t.fresh_size t.last_size t.fresh_is t.witness_is w q;
    here_is = here_plain s n b here e k t.here_size t.here_is r;
    all_is = top_yes v n b any refl t.all_is p;
    walls_is = top_no v n b is_wall h t.walls_is;
  }

-- ---- what the tests ask

pub right : {fresh : List Bool} {last : List (Option ℕ)} {here : List ℕ} {all walls : ℕ} {b : List Item} → Tallied fresh last here all walls b
    → (a : List Item) (i : ℕ) → i < places → {d : Bool} → d ≡ closing (group i a)
    → {c : Cell} → c ≡ cell_of (get_or fresh i false) d → {w : Option ℕ} → w ≡ witness_in fresh last i
    → {s : Tops} → s ≡ tops_of all walls (get_or here i 0) → Right b a i c (witnessed w) s
right t a i k d c w s = record {
  fresh_right = ap (λ (c : Cell). c.fresh) c ∙ t.fresh_is i k;
  closing_right = ap (λ (c : Cell). c.closing) c ∙ d;
  witness_right = ap witnessed w ∙ t.witness_is i k;
  all_right = ap (λ (s : Tops). s.all) s ∙ t.all_is;
  walls_right = ap (λ (s : Tops). s.walls) s ∙ t.walls_is;
  here_right = ap (λ (s : Tops). s.here) s ∙ t.here_is i k;
}
