-- A location is listed for a group exactly when a line names it; and registers that ascend strictly are told by the marks of the groups. Assumes nothing.
use Prim.Native.Nat.{ℕ, ◌+◌, ◌<◌, ◌≤◌}
use mathlib.Core.Path.{◌≡◌, refl, sym, ◌∙◌, ap}
use mathlib.Core.Bool.{Bool, true, false, ◌||◌, or-true, or-false, false≢true}
use mathlib.Core.List.{List, [], ◌∷◌}
use native.Mathlib.Omega.{arith}
use lib.Dec.{eqb}
use lib.ListN.{length, get_or, set, length-set, get_or-replicate}
use lib.Seq.{get_or-set_same, get_or-set_other}
use borrow.Author.Tests.{eqb-true, eqb-false, eq-eqb, ne_eqb}
use Rattle.memory.specs.Listed.{none_listed}
use Rattle.laws.proofs.Cases.{cases, either, side}
use Rattle.laws.specs.Has.{has}
use Rattle.event.specs.Limit.{places, last_place}
use Rattle.text.specs.Line.{said_in}
use Rattle.std.specs.Prelude.{Some}
use Rattle.registers.specs.Reg.{reg_of}
use Rattle.registers.specs.Reading.{rank, of_group, marked, marks_of}
use Rattle.registers.specs.Lines.{marked_for, marking}
use Rattle.registers.specs.Text.{Ascending}
use Rattle.registers.specs.declared.reg.Register.{Register}

marked_at : (ps : List ℕ) (marks : List Bool) (l : ℕ) → l < length marks → get_or (marked marks ps) l false ≡ (has l ps || get_or marks l false)
unfolding marked
marked_at [] marks l h = refl
marked_at (p ∷ ps) marks l h =
    let k : l < length (set marks p true) = omega (arith, length-set marks p true) in
    let s = marked_at ps (set marks p true) l k in
    cases (either (eqb l p))
    (λ e.
    let i = eqb-true l p e in
    let w : p < length marks = omega arith in
    let g : get_or (set marks p true) l false ≡ true = rw i (get_or-set_same marks p true false w) in
    rw e (s ∙ rw g (or-true (has l ps))))
    (λ e. rw e (s ∙ rw (get_or-set_other marks p l true false (eqb-false l p e))))

-- Document 02, C-16: what a list lists is what its lines name.
pub listed_named : (ps : List ℕ) (l : ℕ) → l < places → get_or (marks_of ps) l false ≡ has l ps
listed_named ps l h =
    marked_at ps none_listed l (omega (arith, h)) ∙ rw (get_or-replicate {A = Bool} places l false false h) (or-false (has l ps))

-- what lines list of which the first is a register
pub marking_line : (grouped : Bool) (g : ℕ) (marks : List Bool) (l m : List ℕ) (ls : List (List ℕ)) (r : Register) → reg_of grouped l ≡ Some r
    → marking grouped g marks (l ∷ m ∷ ls) ≡ marking grouped g (marked_for g marks r) (m ∷ ls)
unfolding said_in marked marked_for
marking_line grouped g marks l m ls r h = cases (either (eqb r.group g)) (λ e. rw (h, e)) (λ e. rw (h, e))

-- whether a list of registers has a register
abbrev named : List Register → Register → Bool
named rs r = has r.location (of_group r.group rs)

-- no register that ranks below the lowest is there
not_below : (grouped : Bool) (low : ℕ) (rs : List Register) (r : Register) → Ascending grouped low rs → rank r < low → named rs r ≡ false
not_below grouped low [] r a h = refl
not_below grouped low (q ∷ rs) r a h =
    let b = a.0.0 in
    let s = not_below grouped (rank q + 1) rs r a.1 (omega arith) in
    cases (either (eqb q.group r.group))
    (λ e. let g = eqb-true q.group r.group e in rw (e, ne_eqb r.location q.location (λ z. omega (arith, b, g, z)), s))
    (λ e. rw (e, s))

-- the same registers are there
abbrev Alike : List Register → List Register → Type 0
Alike rs qs = (r : Register) → r.location ≤ last_place → named rs r ≡ named qs r

is_named : (r : Register) (rs : List Register) → named (r ∷ rs) r ≡ true
is_named r rs = rw (eq-eqb r.group r.group refl, eq-eqb r.location r.location refl)

-- another register is there exactly when it is among the rest
other : (q r : Register) (rs : List Register) → (rank q ≡ rank r → ⊥) → named (q ∷ rs) r ≡ named rs r
other q r rs h =
    cases (either (eqb q.group r.group))
    (λ e. let g = eqb-true q.group r.group e in rw (e, ne_eqb r.location q.location (λ z. h (rw (g, z)))))
    (λ e. rw e)

module _ (grouped : Bool) (q : Register) (rs qs : List Register) where
  module _ (a : Ascending grouped (rank q + 1) rs) (b : Ascending grouped (rank q + 1) qs) (h : Alike (q ∷ rs) (q ∷ qs)) where
    alike_rest : Alike rs qs
    alike_rest r k =
        cases (side (rank r) (rank q + 1)) (λ o. not_below grouped (rank q + 1) rs r a o ∙ sym (not_below grouped (rank q + 1) qs r b o))
        (λ o.
        let n : rank q ≡ rank r → ⊥ = λ e. omega arith in
        sym (other q r rs n) ∙ (h r k ∙ other q r qs n))

-- the lowest of two lists that ascend is the same
first_least : (grouped : Bool) (r q : Register) (rs qs : List Register) → r.location ≤ last_place → Ascending grouped (rank q) (q ∷ qs) → Alike (r ∷ rs) (q ∷ qs) → rank q ≤ rank r
first_least grouped r q rs qs n b h =
    cases (side (rank r) (rank q))
    (λ o. absurd (false≢true (sym (not_below grouped (rank q) (q ∷ qs) r b o) ∙ (sym (h r n) ∙ is_named r rs))))
    (λ o. o)

-- and registers of one rank are the same
abbrev register : ℕ → ℕ → Register
register g p = record { group = g; location = p }

same_register : (r q : Register) → r.location ≤ last_place → q.location ≤ last_place → rank r ≡ rank q → q ≡ r
same_register r q m n e =
    let g : q.group ≡ r.group = omega (arith, m, n, e) in
    let p : q.location ≡ r.location = omega (arith, g, e) in
    ap (λ (h : ℕ). register h q.location) g ∙ ap (register r.group) p

same_registers : (grouped : Bool) (low : ℕ) (rs qs : List Register) → Ascending grouped low rs → Ascending grouped low qs → Alike rs qs → rs ≡ qs
same_registers grouped low [] [] a b h = refl
same_registers grouped low [] (q ∷ qs) a b h = absurd (false≢true (h q b.0.1.location ∙ is_named q qs))
same_registers grouped low (r ∷ rs) [] a b h = absurd (false≢true (sym (h r a.0.1.location) ∙ is_named r rs))
same_registers grouped low (r ∷ rs) (q ∷ qs) a b h =
    let m = a.0.1.location in
    let n = b.0.1.location in
    let c = first_least grouped r q rs qs m ((omega arith, b.0.1), b.1) h in
    let d = first_least grouped q r qs rs n ((omega arith, a.0.1), a.1) (λ l k. sym (h l k)) in
    let e : q ≡ r = same_register r q m n (omega (arith, c, d)) in
    let b' : Ascending grouped (rank r + 1) qs = rw e at b.1 in
    let h' : Alike (r ∷ rs) (r ∷ qs) = rw e at h in
    rw e (ap (λ (ps : List Register). r ∷ ps) (same_registers grouped (rank r + 1) rs qs a.1 b' (alike_rest grouped r rs qs a.1 b' h')))

-- Two lists that ascend strictly and list the same locations for each group are the same.
pub same_marks : (grouped : Bool) (rs qs : List Register) → Ascending grouped 0 rs → Ascending grouped 0 qs
    → ((g : ℕ) → marks_of (of_group g rs) ≡ marks_of (of_group g qs)) → rs ≡ qs
same_marks grouped rs qs a b e =
    same_registers grouped 0 rs qs a b
    (λ r k.
    let l : r.location < places = omega (arith, k) in
    sym (listed_named (of_group r.group rs) r.location l) ∙ rw (e r.group) (listed_named (of_group r.group qs) r.location l))
