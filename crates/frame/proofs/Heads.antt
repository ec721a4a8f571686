-- Line 1 of a text: what it tells of the text's refusal, and of its parts. Assumes nothing.
use Prim.Native.Nat.{ℕ, ◌+◌, ◌-◌, ◌≤◌}
use mathlib.Core.Path.{◌≡◌, refl, sym, ◌∙◌}
use mathlib.Core.Bool.{true, false, false≢true}
use mathlib.Core.List.{List, [], ◌∷◌}
use native.Mathlib.Omega.{arith}
use lib.Dec.{ltb}
use lib.ListN.{length, take}
use lib.Seq.{length-take-le}
use borrow.Author.Tests.{ltb-false, le-ltb, ne_eqb}
use Rattle.std.specs.Prelude.{Some, None}
use Rattle.laws.proofs.Cases.{not_first, not_second}
use Rattle.event.specs.Answer.{answer, done}
use Rattle.event.specs.declared.Answer.{Answer}
use Rattle.frame.proofs.Settled.{first_done}
use Rattle.text.specs.Line.{line_len, line_at, split, split_from, body}
use Rattle.text.specs.Word.{same_bytes}
use Rattle.text.proofs.Cuts.{from_start, cut_eq, until_le}
use Rattle.text.proofs.Walk.{PartLeft, next, last, body_from}
use Rattle.text.proofs.Words.{same_eq, same_self}
use Rattle.frame.specs.Reading.{Layout, headed, head_fault, lines_fault, text_fault, settle, tried}

-- by line 1 and the parts after it
head_some : (header l : List ℕ) (ps : List (List ℕ)) → PartLeft ps → headed header (l ∷ ps) ≡ same_bytes l header
head_some header l [] s = absurd s
head_some header l (p ∷ ps) s = refl

pub head_line : (header t : List ℕ) (to : ℕ) → line_at t 0 ≡ Some to → headed header (split t) ≡ same_bytes (take to t) header
head_line header t to e =
    let n = next t 0 to e in
    let z : to - 0 ≡ to = omega arith in
    rw (sym (from_start 10 t) ∙ n.parts, z) (head_some header (take to t) (split_from t (to + 1)) n.some)

pub head_open : (header t : List ℕ) → line_at t 0 ≡ None → headed header (split t) ≡ false
head_open header t e = rw (sym (from_start 10 t) ∙ last t 0 (omega arith) e)

-- a text whose line 1 is right has the header for its first part, and some after it
head_parts : (header : List ℕ) (ps : List (List ℕ)) → headed header ps ≡ true → (ps ≡ header ∷ body ps) × PartLeft (body ps)
head_parts header [] h = absurd (false≢true h)
head_parts header (l ∷ []) h = absurd (false≢true h)
head_parts header (l ∷ p ∷ ps) h = (rw (same_eq l header h), tt)

-- what a text is whose size and lines are not refused
pub record Framed {S : Type 0} (T : Layout S) (side : ℕ) (t : List ℕ) : Type 0 where
  pub short : length t ≤ T.limit
  pub first : headed T.header (split t) ≡ true
  pub parts : split t ≡ T.header ∷ body (split t)
  pub some : PartLeft (body (split t))
  pub lines : (lines_fault T side 2 T.start (body (split t))).number ≡ 0

head_done : (side limit : ℕ) (header t : List ℕ) → (head_fault side limit header t).number ≡ 0 → (length t ≤ limit) × (headed header (split t) ≡ true)
unfolding head_fault
head_done side limit header t h =
    let c = not_first (λ (a : Answer). a.number) (ltb limit (length t)) (answer 1 side 0) _ (λ z. omega arith) h in
    let d = not_second (λ (a : Answer). a.number) (headed header (split t)) done (answer 2 side 1) (λ z. omega arith) c.1 in
    (ltb-false limit (length t) c.0, d.0)

module _ {S : Type 0} (T : Layout S) (side : ℕ) (t : List ℕ) where
  pub framed : (text_fault T side t).number ≡ 0 → Framed T side t
  unfolding text_fault
  framed h =
      let f = first_done (head_fault side T.limit T.header t) (lines_fault T side 2 T.start (body (split t))) h in
      let d = head_done side T.limit T.header t f.0 in
      let p = head_parts T.header (split t) d.1 in
      record { short = d.0; first = d.1; parts = p.0; some = p.1; lines = f.1 }

  -- a short text with the header for its first part is tried line by line
  pub by_lines : (ls : List (List ℕ)) → length t ≤ T.limit → split t ≡ T.header ∷ ls → PartLeft ls → text_fault T side t ≡ lines_fault T side 2 T.start ls
  unfolding text_fault head_fault
  by_lines ls h p s = rw (le-ltb T.limit (length t) h, p, head_some T.header T.header ls s, same_self T.header)

  -- by what was found of the size and line 1
  module _ {R : Type 0} (refused : Answer → R) {found : Answer} (q : found ≡ head_fault side T.limit T.header t) where
    -- it is a refusal
    pub head_stops : (found.number ≡ 0 → ⊥) → {r : R} → r ≡ refused found → (x : R) → r ≡ settle refused (text_fault T side t) x
    unfolding text_fault
    head_stops n p x = let z = ne_eqb found.number 0 n in p ∙ rw (← q, z, z)

    -- it is none: the lines from line 2 on are tried
    module _ (h : found.number ≡ 0) where
      right : (head_fault side T.limit T.header t).number ≡ 0
      right = rw q at h

      pub head_goes : (out : List (List ℕ) → R)
          → settle refused (text_fault T side t) (out (body (split t))) ≡ tried T refused side 2 T.start out (split_from t (line_len t + 1))
      unfolding text_fault tried
      head_goes out = rw (right, body_from t)

      -- line 1 has as many bytes as the header
      pub head_length : line_len t ≡ length T.header
      head_length =
          let p = head_parts T.header (split t) (head_done side T.limit T.header t right).1 in
          let e : T.header ≡ take (line_len t) t = cc (p.0, cut_eq 10 t) in
          rw e (sym (length-take-le (line_len t) t (until_le 10 t)))
