-- A list has one text of each form: a list text that is read without refusal has the header and the lines of its registers for parts, and parts glued together
-- are the text again; and such a text is read as those registers. Assumes nothing.
use Prim.Native.Nat.{ℕ, zero, suc, ◌+◌, ◌*◌, ◌≤◌, ◌<◌}
use mathlib.Core.Path.{◌≡◌, refl, sym, ◌∙◌, ap, subst}
use mathlib.Core.Bool.{Bool, true, false, ◌||◌, false≢true}
use mathlib.Core.List.{List, [], ◌∷◌, ◌++◌, map}
use native.Mathlib.Omega.{arith}
use lib.Dec.{eqb, leb, ltb}
use lib.ListN.{length, length-append, get_or, replicate, length-set}
use lib.Seq.{get_or-set_same, get_or-set_other}
use borrow.Author.Tests.{eqb-true, eqb-false, eq-eqb, leb-false, ltb-false, le-ltb, lt-leb}
use Rattle.laws.specs.Each.{Each}
use Rattle.laws.proofs.Cases.{cases, either, not_first}
use Rattle.laws.proofs.Lists.{Free, each_append}
use Rattle.event.specs.Answer.{done}
use Rattle.event.specs.Limit.{last_place}
use Rattle.text.specs.Cut.{glue}
use Rattle.text.specs.Line.{split, body, said_in}
use Rattle.text.specs.Number.{decimal}
use Rattle.text.specs.Word.{same_bytes}
use Rattle.text.proofs.Decimals.{length_below}
use Rattle.text.proofs.Parts.{cut_glue, glue_cut}
use Rattle.text.proofs.Round.{decimal_no_lf}
use Rattle.text.proofs.Walk.{PartLeft, some_end, said_on}
use Rattle.frame.specs.Reading.{headed, lines_fault}
use Rattle.frame.proofs.Heads.{framed, by_lines}
use Rattle.frame.proofs.Lines.{lines_go, lines_pass}
use Rattle.std.specs.Prelude.{Option, Some, None}
use Rattle.registers.specs.Reg.{header, reg_word, reg_of, reg_line}
use Rattle.registers.specs.Reading.{ListRead, SoFar, nothing, list_limit, reg_limit, rank, regs_fault, after_reg, before, is_grouped, regs_layout, regs_on, regs_in, regs_of}
use Rattle.registers.specs.Reading.{of_group, group_of, marks_of, read_as, list_of}
use Rattle.registers.specs.Text.{list_text, Named, Ascending, Fits}
use Rattle.registers.specs.declared.reg.Register.{Register}
use Rattle.registers.proofs.Groups.{list_done, one_answer}
use Rattle.registers.proofs.Marks.{same_marks}
use Rattle.registers.proofs.Prints.{reg_read, reg_back}

-- the lines of registers, with nothing after the last LF
abbrev tail : Bool → List Register → List (List ℕ)
tail grouped rs = map (reg_line grouped) rs ++ ([] ∷ [])

-- a named group has its count
pub group_in : (grouped : Bool) (r : Register) → Named grouped r → r.group < 3
group_in true r n = omega (arith, n.group)
group_in false r n = omega (arith, n.group)

-- and a register that is read has its count and its mark
pub reg_in : (grouped : Bool) (l : List ℕ) (r : Register) → reg_of grouped l ≡ Some r → (r.group < 3) × (r.location ≤ last_place)
reg_in grouped l r h = let n = (reg_back grouped l r h).1 in (group_in grouped r n, n.location)

-- behind what is known there is room for so many registers of each group
record Room (s : SoFar) (rs : List Register) : Type 0 where
  size : length s.counts ≡ 3
  few : (g : ℕ) → get_or s.counts g 0 + length (of_group g rs) ≤ reg_limit

-- a register takes its place in its own group
count_after : (s : SoFar) (r : Register) (rs : List Register) (g : ℕ) → length s.counts ≡ 3 → r.group < 3
    → get_or s.counts g 0 + length (of_group g (r ∷ rs)) ≡ get_or (after_reg s (Some r)).counts g 0 + length (of_group g rs)
count_after s r rs g z n =
    cases (either (eqb r.group g))
    (λ e. let i = eqb-true r.group g e in rw (e, ← i, get_or-set_same s.counts r.group (before s r + 1) 0 (omega (arith, n, z)), i) (omega arith))
    (λ e. rw (e, get_or-set_other s.counts r.group g (before s r + 1) 0 (λ i. eqb-false r.group g e (sym i))))

room_after : (s : SoFar) (r : Register) (rs : List Register) → r.group < 3 → Room s (r ∷ rs) → Room (after_reg s (Some r)) rs
room_after s r rs n k = record {
  size = length-set s.counts r.group (before s r + 1) ∙ k.size;
  few = λ g. rw (← count_after s r rs g k.size n) (k.few g);
}

-- before a register that has room there are fewer than the most
room_own : (s : SoFar) (r : Register) (rs : List Register) → Room s (r ∷ rs) → before s r < reg_limit
room_own s r rs k =
    let few = k.few r.group in
    let own = rw (eq-eqb r.group r.group refl) at few in
    omega (arith, own)

-- a register that is not one too many
module _ (s : SoFar) (r : Register) (n : r.group < 3) (few : before s r < reg_limit) where
  room_next : Room s [] → Room (after_reg s (Some r)) []
  room_next k = record {
    size = length-set s.counts r.group (before s r + 1) ∙ k.size;
    few = λ g.
        rw (← count_after s r [] g k.size n)
        (cases (either (eqb r.group g))
        (λ e. let i = eqb-true r.group g e in rw (e, ← i) (omega (arith, few)))
        (λ e. rw e (k.few g)));
  }

-- lines that are those of their registers, which ascend and fit behind those before
record Print (grouped : Bool) (s : SoFar) (ls : List (List ℕ)) : Type 0 where
  lines : ls ≡ tail grouped (regs_in grouped ls)
  room : Room s (regs_in grouped ls)
  rising : Ascending grouped s.low (regs_in grouped ls)

abbrev Printed : Bool → SoFar → List (List ℕ) → Type 0
Printed grouped s ls = Room s [] → Print grouped s ls

last_printed : (grouped : Bool) (s : SoFar) → Printed grouped s ([] ∷ [])
unfolding said_in
last_printed grouped s k = record { lines = refl; room = k; rising = tt }

pub neither : (x y : Bool) → (x || y) ≡ false → (x ≡ false) × (y ≡ false)
neither false y h = (refl, h)
neither true y h = absurd (false≢true (sym h))

line_printed : (grouped : Bool) (s : SoFar) (l m : List ℕ) (ls : List (List ℕ)) (r : Option Register) → reg_of grouped l ≡ r → regs_fault s r ≡ 0
    → Printed grouped (after_reg s r) (m ∷ ls) → Printed grouped s (l ∷ m ∷ ls)
unfolding said_in
line_printed grouped s l m ls None q h g k = absurd (omega arith)
line_printed grouped s l m ls (Some r) q h g k =
    let f = neither _ _ (not_first (λ (x : ℕ). x) (ltb (rank r) s.low || leb reg_limit (before s r)) 22 0 (λ z. omega arith) h).0 in
    let low = ltb-false (rank r) s.low f.0 in
    let few = leb-false reg_limit (before s r) f.1 in
    let b = reg_back grouped l r q in
    let n = group_in grouped r b.1 in
    let p = g (room_next s r n (omega (arith, few)) k) in
    record {
      lines = rw (q, ← b.0, ← p.lines);
      room = rw q (record { size = k.size; few = λ i. rw (count_after s r (regs_in grouped (m ∷ ls)) i k.size n) (p.room.few i) });
      rising = rw q ((low, b.1), p.rising);
    }

no_counts : (n g : ℕ) → ◌≡◌ {A = ℕ} (get_or (replicate n 0) g 0) 0
no_counts zero g = refl
no_counts (suc n) zero = refl
no_counts (suc n) (suc g) = no_counts n g

nothing_yet : Room nothing []
nothing_yet = record { size = refl; few = λ g. omega (arith, no_counts 3 g) }

-- Document 02, C-16: "`regs`, `1`, then up to 32 lines `reg`, location, strictly ascending"; C-20: "ascending by group, then location; up to 32 each". A text
-- that is read without refusal is the header and the lines of its registers.
pub text_back : (g : ℕ) (t : List ℕ) → (list_of g t).answer.number ≡ 0 → (list_text (is_grouped t) (regs_of t) ≡ t) × Fits (is_grouped t) (regs_of t)
unfolding regs_of
text_back g t h =
    let b = is_grouped t in
    let f = framed (regs_layout b) 4 t (list_done g t h).0 in
    let p =
    lines_pass (regs_layout b) 4 (Printed b) (last_printed b) (λ s l m ls. line_printed b s l m ls (reg_of b l) refl) 2 nothing (body (split t)) f.some f.lines nothing_yet in
    let e = ap (λ (qs : List (List ℕ)). header b ∷ qs) (sym p.lines) ∙ sym f.parts in
    (ap (glue 10) e ∙ glue_cut 10 t, record { few = λ i. omega (arith, p.room.few i); rising = p.rising })

abbrev listed : ListRead → List Bool
listed r = r.listed

-- So a list has one text of a form: two that are read without refusal and list the same locations for each group are the same.
pub one_text : (t u : List ℕ) → (list_of 1 t).answer.number ≡ 0 → (list_of 1 u).answer.number ≡ 0 → is_grouped t ≡ is_grouped u
    → ((g : ℕ) → (list_of g t).listed ≡ (list_of g u).listed) → t ≡ u
one_text t u h k f q =
    let a = text_back 1 t h in
    let b : (list_text (is_grouped t) (regs_of u) ≡ u) × Fits (is_grouped t) (regs_of u) =
    subst (λ (x : Bool). (list_text x (regs_of u) ≡ u) × Fits x (regs_of u)) (sym f) (text_back 1 u k) in
    let m : (g : ℕ) → marks_of (group_of g t) ≡ marks_of (group_of g u) =
    λ g.
    sym (ap listed (list_done g t (rw (one_answer g 1 t) h)).1) ∙ (q g ∙ ap listed (list_done g u (rw (one_answer g 1 u) k)).1) in
    let e = same_marks (is_grouped t) (regs_of t) (regs_of u) a.1.rising b.1.rising m in
    sym a.0 ∙ (ap (list_text (is_grouped t)) e ∙ b.0)

-- and such a text is read as those registers
tail_lines : (grouped : Bool) (k : ℕ) (s : SoFar) (rs : List Register) → Room s rs → Ascending grouped s.low rs
    → lines_fault (regs_layout grouped) 4 k s (tail grouped rs) ≡ done
unfolding lines_fault
tail_lines grouped k s [] b a = refl
tail_lines grouped k s (r ∷ rs) b a =
    let n = a.0.1 in
    let q = reg_read grouped r n in
    lines_go (regs_layout grouped) 4 k s (reg_line grouped r) (tail grouped rs) (some_end (map (reg_line grouped) rs))
    (rw (q, le-ltb (rank r) s.low a.0.0, lt-leb reg_limit (before s r) (room_own s r rs b)))
    ∙ rw q (tail_lines grouped (k + 1) (after_reg s (Some r)) rs (room_after s r rs (group_in grouped r n) b) a.1)

tail_regs : (grouped : Bool) (low : ℕ) (rs : List Register) → Ascending grouped low rs → regs_in grouped (tail grouped rs) ≡ rs
unfolding said_in
tail_regs grouped low [] a = refl
tail_regs grouped low (r ∷ rs) a =
    said_on (λ l. regs_on (reg_of grouped l)) (reg_line grouped r) (tail grouped rs) (some_end (map (reg_line grouped) rs))
    ∙ rw (reg_read grouped r a.0.1, tail_regs grouped (rank r + 1) rs a.1)

-- a register's line has no LF, and at most 9 bytes
after_word_lem : (l : List ℕ) → Free 10 l → Free 10 (reg_word ++ 9 ∷ l)
after_word_lem l h = ((λ z. omega arith), ((λ z. omega arith), ((λ z. omega arith), ((λ z. omega arith), h))))

line_free : (grouped : Bool) (r : Register) → Free 10 (reg_line grouped r)
unfolding reg_line glue
line_free true r =
    after_word_lem (decimal r.group ++ 9 ∷ decimal r.location)
    (each_append _ (decimal r.group) (9 ∷ decimal r.location) (decimal_no_lf r.group) ((λ z. omega arith), decimal_no_lf r.location))
line_free false r = after_word_lem (decimal r.location) (decimal_no_lf r.location)

tail_free : (grouped : Bool) (rs : List Register) → Each (Free 10) (tail grouped rs)
tail_free grouped [] = (tt, tt)
tail_free grouped (r ∷ rs) = (line_free grouped r, tail_free grouped rs)

line_length : (grouped : Bool) (r : Register) → Named grouped r → length (reg_line grouped r) ≤ 9
unfolding reg_line glue
line_length true r n =
    omega (
      arith,
      length-append (decimal r.group) (9 ∷ decimal r.location),
      length_below 0 r.group (omega (arith, n.group)),
      length_below 2 r.location (omega (arith, n.location)),
    )
line_length false r n = omega (arith, length_below 2 r.location (omega (arith, n.location)))

tail_length : (grouped : Bool) (head : List ℕ) (low : ℕ) (rs : List Register) → Ascending grouped low rs
    → length (glue 10 (head ∷ tail grouped rs)) ≤ length head + 1 + length rs * 10
unfolding glue
tail_length grouped head low [] a = omega (arith, length-append head (10 ∷ []))
tail_length grouped head low (r ∷ rs) a =
    omega (
      arith,
      length-append head (10 ∷ glue 10 (reg_line grouped r ∷ tail grouped rs)),
      tail_length grouped (reg_line grouped r) (rank r + 1) rs a.1,
      line_length grouped r a.0.1,
    )

-- every register is of group 1 or of group 2
both_groups : (grouped : Bool) (low : ℕ) (rs : List Register) → Ascending grouped low rs → length rs ≤ length (of_group 1 rs) + length (of_group 2 rs)
both_groups grouped low [] a = omega arith
both_groups grouped low (r ∷ rs) a =
    let n = a.0.1 in
    let i = group_in grouped r n in
    let s = both_groups grouped (rank r + 1) rs a.1 in
    cases (either (eqb r.group 1))
    (λ e. let g = eqb-true r.group 1 e in rw g (omega (arith, s)))
    (λ e. let o = eqb-false r.group 1 e in let g : r.group ≡ 2 = omega (arith, n.one, i, o) in rw g (omega (arith, s)))

header_free : (grouped : Bool) → Free 10 (header grouped)
header_free true = ((λ z. omega arith), ((λ z. omega arith), ((λ z. omega arith), ((λ z. omega arith), ((λ z. omega arith), ((λ z. omega arith), tt))))))
header_free false = ((λ z. omega arith), ((λ z. omega arith), ((λ z. omega arith), ((λ z. omega arith), ((λ z. omega arith), ((λ z. omega arith), tt))))))

pub header_length : (grouped : Bool) → length (header grouped) ≡ 6
header_length true = refl
header_length false = refl

-- line 1 tells the forms apart
is_headed_lem : (grouped : Bool) (ls : List (List ℕ)) → PartLeft ls → headed (header true) (header grouped ∷ ls) ≡ grouped
unfolding same_bytes
is_headed_lem true (l ∷ ls) s = refl
is_headed_lem false (l ∷ ls) s = refl
is_headed_lem true [] s = elim s [ ]
is_headed_lem false [] s = elim s [ ]

module _ (grouped : Bool) (rs : List Register) (f : Fits grouped rs) where
  short : length (list_text grouped rs) ≤ list_limit
  short =
      omega
      (arith, tail_length grouped (header grouped) 0 rs f.rising, header_length grouped, both_groups grouped 0 rs f.rising, f.few 1, f.few 2)

  some : PartLeft (tail grouped rs)
  some = some_end (map (reg_line grouped) rs)

  parts : split (list_text grouped rs) ≡ header grouped ∷ tail grouped rs
  parts = cut_glue 10 (header grouped) (tail grouped rs) (header_free grouped, tail_free grouped rs)

  -- The text of registers that have one is of its form, and lists for each group the group's.
  pub text_grouped : is_grouped (list_text grouped rs) ≡ grouped
  unfolding is_grouped
  text_grouped = rw parts (is_headed_lem grouped (tail grouped rs) some)

  pub text_read : (g : ℕ) → (list_of g (list_text grouped rs) ≡ read_as (marks_of (of_group g rs))) × (regs_of (list_text grouped rs) ≡ rs)
  unfolding list_of regs_of
  text_read g =
      let l = tail_lines grouped 2 nothing rs (record { size = refl; few = λ h. omega (arith, no_counts 3 h, f.few h) }) f.rising in
      let r = tail_regs grouped 0 rs f.rising in
      (rw (text_grouped, by_lines (regs_layout grouped) 4 (list_text grouped rs) (tail grouped rs) short parts some, l, parts, r), rw (text_grouped, parts, r))
