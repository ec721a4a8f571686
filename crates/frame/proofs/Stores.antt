-- What a text says put into a room one line at a time. It is the same for all that a text can say: an A is put at an index, which keeps the room's
-- length; and where the room holds them, so many that are put one after the other from its start on stand at its front. Assumes nothing.
use Prim.Native.Nat.{ℕ, ◌+◌, ◌≤◌}
use mathlib.Core.Path.{◌≡◌, refl, sym, ◌∙◌}
use mathlib.Core.List.{List, [], ◌∷◌, ◌++◌, append_assoc, append-nil}
use native.Mathlib.Omega.{arith}
use lib.ListN.{length, drop, length-append}
use Rattle.std.specs.Prelude.{Some, None}
use Rattle.text.specs.Line.{line_len, line_at, split, split_from, body, said_in}
use Rattle.text.proofs.Walk.{part, next, walk_line, walk_none, body_from}
use Rattle.frame.specs.Store.{put_all}

-- how things are put: `words` of so many of them, the room for so many, and one more put behind them
pub record Puts (A : Type 0) (put : List ℕ → ℕ → A → List ℕ) : Type 0 where
  pub words : List A → List ℕ
  pub room : ℕ → ℕ
  pub grows : (i j : ℕ) → i ≤ j → room i ≤ room j
  pub none : (r : List ℕ) → words [] ++ drop (room 0) r ≡ r
  pub one_more : (bs : List A) (a : A) (r : List ℕ) → room (length bs + 1) ≤ length r
      → put (words bs ++ drop (room (length bs)) r) (length bs) a ≡ words (bs ++ (a ∷ [])) ++ drop (room (length bs + 1)) r
  pub keeps : (l : List ℕ) (i : ℕ) (a : A) → length (put l i a) ≡ length l

module _ {A : Type 0} (put : List ℕ → ℕ → A → List ℕ) (P : Puts A put) where
  -- a room whose front holds some of them, with others put behind those
  all_behind : (r : List ℕ) (bs es : List A) → P.room (length (bs ++ es)) ≤ length r
      → put_all put (P.words bs ++ drop (P.room (length bs)) r) (length bs) es ≡ P.words (bs ++ es) ++ drop (P.room (length (bs ++ es))) r
  unfolding put_all
  all_behind r bs [] h = rw (append-nil bs)
  all_behind r bs (e ∷ es) h =
      let n : length (bs ++ (e ∷ [])) ≡ length bs + 1 = length-append bs (e ∷ []) in
      let a : (bs ++ (e ∷ [])) ++ es ≡ bs ++ e ∷ es = append_assoc bs (e ∷ []) es in
      let g = P.grows (length bs + 1) (length (bs ++ e ∷ es)) (omega (arith, length-append bs (e ∷ es))) in
      rw (P.one_more bs e r (omega (arith, g))) (rw (n, a) at (all_behind r (bs ++ (e ∷ [])) es (rw a h)))

  -- Where the room holds them, they stand at its front.
  pub all_front : (r : List ℕ) (es : List A) → P.room (length es) ≤ length r → put_all put r 0 es ≡ P.words es ++ drop (P.room (length es)) r
  all_front r es h = rw (P.none r) at (all_behind r [] es h)

  put_keeps : (room : List ℕ) (i : ℕ) (bs : List A) → length (put_all put room i bs) ≡ length room
  unfolding put_all
  put_keeps room i [] = refl
  put_keeps room i (a ∷ bs) = put_keeps (put room i a) (i + 1) bs ∙ P.keeps room i a

  put_append : (room : List ℕ) (i : ℕ) (bs es : List A) → put_all put room i (bs ++ es) ≡ put_all put (put_all put room i bs) (i + length bs) es
  unfolding put_all
  put_append room i [] es = let z : i + 0 ≡ i = omega arith in rw z
  put_append room i (a ∷ bs) es =
      let z : i + length (a ∷ bs) ≡ i + 1 + length bs = omega arith in
      rw z (put_append (put room i a) (i + 1) bs es)

  -- A text by its lines, each of which says one thing at most: with what the lines from a place on say, the room comes out as with all that the text
  -- says. No more is put than bytes were passed.
  module _ (says : List ℕ → List A) (brief : (l : List ℕ) → length (says l) ≤ 1) (t room₀ : List ℕ) where
    abbrev pub all : List A
    all = said_in says (body (split t))

    abbrev with_said : List ℕ → ℕ → List (List ℕ) → List ℕ
    with_said room i ls = put_all put room i (said_in says ls)

    pub record Held (i : ℕ) (room : List ℕ) (at : ℕ) : Type 0 where
      pub same : put_all put room₀ 0 all ≡ with_said room i (split_from t at)
      pub few : i ≤ at
      pub size : length room ≡ length room₀

    pub held_start : Held 0 room₀ (line_len t + 1)
    held_start = record { same = rw (body_from t); few = omega arith; size = refl }

    module _ {i : ℕ} {room : List ℕ} {at : ℕ} (s : Held i room at) where
      -- the line there says bs
      pub held_step : {to : ℕ} → line_at t at ≡ Some to → {j : ℕ} {room' : List ℕ} (bs : List A) → bs ≡ says (part t at to) → j ≡ i + length bs
          → room' ≡ put_all put room i bs → Held j room' (to + 1)
      unfolding said_in
      held_step {to} e {j} {room'} bs q a b = record {
        same =
            walk_line (with_said room i) t at s.same (with_said room' j) e
            (λ m ls. rw (b, a, q) (put_append room i (says (part t at to)) (said_in says (m ∷ ls))));
        few = omega (arith, s.few, next t at to e, rw (← q) at (brief (part t at to)));
        size = rw b (put_keeps room i bs) ∙ s.size;
      }

      -- no line is left
      pub held_all : line_at t at ≡ None → room ≡ put_all put room₀ 0 all
      unfolding said_in put_all
      held_all e = sym (walk_none (with_said room i) t at s.same e refl (λ l. refl))
