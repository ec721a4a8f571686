-- An entry is a word: one more put behind those at the front of a room. So entries that a room holds, put one after the other, stand at its
-- front. Assumes nothing.
use Prim.Native.Nat.{ℕ, suc, ◌+◌, ◌≤◌, ◌<◌}
use mathlib.Core.Path.{◌≡◌, refl, sym, ◌∙◌}
use mathlib.Core.List.{List, [], ◌∷◌, ◌++◌, append_assoc}
use native.Mathlib.Numerals.{add-one}
use native.Mathlib.Omega.{arith}
use lib.ListN.{length, get_or, drop, set, length-set}
use lib.Seq.{drop-cons, set_at}
use Rattle.std.specs.Prelude.{Option, Some, None}
use Rattle.frame.specs.Store.{put_all}
use Rattle.frame.proofs.Stores.{Puts, all_front}
use Rattle.matching.specs.Entry.{entry_of}
use Rattle.matching.specs.Reading.{entries_on, front}

pub one_more : (es : List ℕ) (e : ℕ) (r : List ℕ) → length es + 1 ≤ length r
    → set (es ++ drop (length es) r) (length es) e ≡ (es ++ (e ∷ [])) ++ drop (length es + 1) r
one_more es e r h =
    let k : length es < length r = omega arith in
    rw (drop-cons r (length es) 0 k, add-one (length es))
    (set_at es (get_or r (length es) 0) (drop (suc (length es)) r) e (length es) refl ∙ sym (append_assoc es (e ∷ []) (drop (suc (length es)) r)))

abbrev pub entries_put : Puts ℕ set
entries_put = record {
  words = λ es. es;
  room = λ n. n;
  grows = λ i j h. h;
  none = λ r. refl;
  one_more = one_more;
  keeps = λ l i e. length-set l i e;
}

pub entries_front : (es room : List ℕ) → length es ≤ length room → put_all set room 0 es ≡ front es room
entries_front es room h = all_front set entries_put room es h

-- what a line says, which is one entry at most
abbrev pub says : List ℕ → List ℕ
says l = entries_on (entry_of l)

one_at_most : (r : Option ℕ) → length (entries_on r) ≤ 1
one_at_most None = omega arith
one_at_most (Some e) = omega arith

pub brief : (l : List ℕ) → length (says l) ≤ 1
brief l = one_at_most (entry_of l)
