-- The lines of a text by a place in it: the line that starts there, by where it ends, and the lines after it; and what a walk over them, line by line,
-- comes to. Assumes nothing.
use Prim.Native.Nat.{ℕ, ◌+◌, ◌-◌, ◌≤◌, ◌<◌}
use mathlib.Core.Path.{◌≡◌, refl, sym, ◌∙◌, ap}
use mathlib.Core.List.{List, [], ◌∷◌, ◌++◌}
use native.Mathlib.Omega.{arith}
use lib.Dec.{ltb}
use lib.ListN.{length, take, drop, length-drop, drop_of_length-le}
use lib.Seq.{length-take-le}
use borrow.Author.Tests.{ltb-true, ltb-false}
use Rattle.laws.proofs.Cases.{cases, either, side}
use Rattle.text.specs.Cut.{cut}
use Rattle.text.specs.Line.{line_len, line_at, split, split_from, body, said_in}
use Rattle.std.specs.Prelude.{Some, None}
use Rattle.text.proofs.Cuts.{from_start, from_step, from_in, from_out, until_in}

-- some part is left
abbrev pub PartLeft : List (List ℕ) → Type 0
PartLeft [] = ⊥
PartLeft (p ∷ ps) = Unit {0}

pub some_after : (ls ts : List (List ℕ)) → PartLeft ts → PartLeft (ls ++ ts)
some_after [] ts s = s
some_after (l ∷ ls) ts s = tt

-- what stands after the last LF, be it nothing
pub some_end : (ls : List (List ℕ)) → PartLeft (ls ++ ([] ∷ []))
some_end ls = some_after ls ([] ∷ []) tt

-- the part of a text from one place to another
abbrev pub part : List ℕ → ℕ → ℕ → List ℕ
part t at to = take (to - at) (drop at t)

pub part_length : (t : List ℕ) (at to : ℕ) → to ≤ length t → length (part t at to) ≡ to - at
part_length t at to h = length-take-le (to - at) (drop at t) (omega (arith, length-drop at t))

-- a part that starts at a place within the text, and those after it
parts_line : (t : List ℕ) (at e : ℕ) → e ≡ at + line_len (drop at t) → at ≤ length t → split_from t at ≡ part t at e ∷ split_from t (e + 1)
parts_line t at e p h = from_step 10 t at e h p

-- some part starts at a place within the text
parts_some : (t : List ℕ) (at : ℕ) → at ≤ length t → PartLeft (split_from t at)
parts_some t at h = rw (parts_line t at (at + line_len (drop at t)) refl h) tt

-- what the next line of a text tells, by where it ends: the parts from there on are the line and those after its LF
pub record Next (t : List ℕ) (at to : ℕ) : Type 0 where
  pub rises : at ≤ to
  pub within : to < length t
  pub parts : split_from t at ≡ part t at to ∷ split_from t (to + 1)
  pub some : PartLeft (split_from t (to + 1))

module _ (t : List ℕ) (at : ℕ) where
  abbrev stop : ℕ
  stop = at + line_len (drop at t)

  pub next : (to : ℕ) → line_at t at ≡ Some to → Next t at to
  unfolding line_at
  next to e =
      cases (either (ltb stop (length t)))
      (λ q. let s : stop ≡ to = cc (rw q at e) in
      let w = ltb-true stop (length t) q in
      record {
        rises = omega arith;
        within = omega (arith, w);
        parts = parts_line t at to (sym s) (omega (arith, w));
        some = parts_some t (to + 1) (omega (arith, w));
      })
      (λ q. absurd (let z : ◌≡◌ {A = ℕ} 0 1 = cc (rw q at e) in omega arith))

  -- no LF is left: what stands there is the last part
  pub last : at ≤ length t → line_at t at ≡ None → split_from t at ≡ part t at (length t) ∷ []
  unfolding line_at
  last h e =
      cases (either (ltb stop (length t))) (λ q. absurd (let z : ◌≡◌ {A = ℕ} 0 1 = cc (rw q at e) in omega arith))
      (λ q. let s : length t ≡ stop = omega (arith, ltb-false stop (length t) q, until_in 10 t at h) in
      let o : length t < length t + 1 = omega arith in
      parts_line t at (length t) s h ∙ rw (from_out 10 t (length t + 1) o))

-- what holds of the parts from a place on, and of those after it: a line stands there, or no LF is left
pub by_line : (P : List (List ℕ) → List (List ℕ) → Type 0) (t : List ℕ) (at : ℕ) {to : ℕ} → line_at t at ≡ Some to
    → ((m : List ℕ) (ls : List (List ℕ)) → P (part t at to ∷ m ∷ ls) (m ∷ ls)) → P (split_from t at) (split_from t (to + 1))
by_line P t at {to} e h = let n = next t at to e in rw n.parts (on (split_from t (to + 1)) n.some)
  where
    on : (ps : List (List ℕ)) → PartLeft ps → P (part t at to ∷ ps) ps
    on [] s = absurd s
    on (m ∷ ls) s = h m ls

pub by_end : (P : List (List ℕ) → Type 0) (t : List ℕ) (at : ℕ) → line_at t at ≡ None → P [] → ((l : List ℕ) → P (l ∷ [])) → P (split_from t at)
by_end P t at e h k = cases (side (length t) at) (λ q. rw (from_out 10 t at q) h) (λ q. rw (last t at q e) (k (part t at (length t))))

-- A walk over lines: what all of them come to is what `here` makes of those from a place on.
module _ {R : Type 0} {whole : R} (here : List (List ℕ) → R) (t : List ℕ) (at : ℕ) (w : whole ≡ here (split_from t at)) where
  -- a line, and what `after` makes of those after it
  pub walk_line : (after : List (List ℕ) → R) {to : ℕ} → line_at t at ≡ Some to
      → ((m : List ℕ) (ls : List (List ℕ)) → here (part t at to ∷ m ∷ ls) ≡ after (m ∷ ls)) → whole ≡ after (split_from t (to + 1))
  walk_line after e h = w ∙ by_line (λ ps qs. here ps ≡ after qs) t at e h

  module _ {r : R} where
    -- no LF is left, whatever stands there
    pub walk_none : line_at t at ≡ None → here [] ≡ r → ((l : List ℕ) → here (l ∷ []) ≡ r) → whole ≡ r
    walk_none e h k = w ∙ by_end (λ ps. here ps ≡ r) t at e h k

    -- something stands there
    pub walk_open : line_at t at ≡ None → at < length t → ((b : ℕ) (l : List ℕ) → here ((b ∷ l) ∷ []) ≡ r) → whole ≡ r
    walk_open e o h = w ∙ rw (last t at (omega arith) e) (on (part t at (length t)) (omega (arith, part_length t at (length t) (omega arith))))
      where
        on : (l : List ℕ) → 0 < length l → here (l ∷ []) ≡ r
        on [] z = absurd (omega arith)
        on (b ∷ l) z = h b l

    -- nothing stands there
    pub walk_end : length t ≤ at → here [] ≡ r → here ([] ∷ []) ≡ r → whole ≡ r
    unfolding cut
    walk_end o h k =
        cases (side (length t) at) (λ q. w ∙ rw (from_out 10 t at q) h)
        (λ q. let p : at ≤ length t = omega arith in w ∙ rw (from_in 10 t at p, drop_of_length-le t o) k)

-- the lines after line 1 start where line 2 does
pub body_from : (t : List ℕ) → body (split t) ≡ split_from t (line_len t + 1)
body_from t = ap body (sym (from_start 10 t) ∙ parts_line t 0 (line_len t) (omega arith) (omega arith))

-- what a line says, before other parts
pub said_on : {A : Type 0} (says : List ℕ → List A) (l : List ℕ) (ps : List (List ℕ)) → PartLeft ps → said_in says (l ∷ ps) ≡ says l ++ said_in says ps
unfolding said_in
said_on says l [] s = absurd s
said_on says l (p ∷ ps) s = refl

-- where a line ends lies within the text
pub line_in : (t : List ℕ) (at to : ℕ) → line_at t at ≡ Some to → (at ≤ to) × (to + 1 ≤ length t)
line_in t at to e = let n = next t at to e in (n.rises, omega (arith, n.within))
