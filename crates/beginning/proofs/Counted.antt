-- The numbers of the source's events, with which a run begins. Assumes nothing.
use mathlib.Core.Path.{◌≡◌, refl, sym, ◌∙◌, ap, ap₂}
use mathlib.Core.Bool.{true}
use mathlib.Core.List.{List, [], ◌∷◌, ◌++◌}
use Prim.Native.Nat.{ℕ, zero, suc, ◌+◌, ◌<◌, ◌≤◌}
use native.Mathlib.Numerals.{add-one}
use native.Mathlib.Omega.{arith}
use lib.Dec.{ltb}
use lib.ListN.{length, get_or, set, drop}
use lib.Seq.{append_snoc, drop-cons, set_at}
use borrow.Author.Tests.{lt-ltb}
use Rattle.event.specs.Room.{no_event}
use Rattle.event.specs.declared.Event.{Event}
use Rattle.rules.specs.Run.{number}
use Rattle.rules.proofs.Entries.{From, from_here, from_next, from_start}
use Rattle.changes.specs.Tags.{trace}
use Rattle.beginning.specs.Start.{counted}
use Rattle.event.specs.Limit.{event_limit}

pub counted_length : (i n : ℕ) → length (counted i n) ≡ n
counted_length i zero = refl
counted_length i (suc n) = ap suc (counted_length (suc i) n)

pub counted_next : (i n : ℕ) → counted i (suc n) ≡ counted i n ++ ((i + n) ∷ [])
counted_next i zero = let e : i ≡ i + 0 = omega arith in ap (λ k. k ∷ []) e
counted_next i (suc n) =
    let e : suc i + n ≡ i + suc n = omega arith in
    ap (λ l. i ∷ l) (counted_next (suc i) n ∙ ap (λ k. counted (suc i) n ++ (k ∷ [])) e)

-- one number more written
pub counted_set : (i : ℕ) (A : List ℕ) → i < length A → set (counted 0 i ++ drop i A) i i ≡ counted 0 (i + 1) ++ drop (i + 1) A
counted_set i A h =
    let z : 0 + i ≡ i = omega arith in
    let q : counted 0 (suc i) ≡ counted 0 i ++ (i ∷ []) = counted_next 0 i ∙ ap (λ k. counted 0 i ++ (k ∷ [])) z in
    let stored = set_at (counted 0 i) (get_or A i 0) (drop (suc i) A) i i (counted_length 0 i) in
    rw (add-one i) (ap (λ l. set (counted 0 i ++ l) i i) (drop-cons A i 0 h)
    ∙ (stored ∙ (sym (append_snoc (counted 0 i) i (drop (suc i) A)) ∙ ap (λ l. l ++ drop (suc i) A) (sym q))))

trace_from : (s t : List Event) (i : ℕ) (r : List Event) → From no_event s i r → i + length r ≤ event_limit → trace s t (counted i (length r)) ≡ number (suc i) r
trace_from s t i [] f l = refl
trace_from s t i (e ∷ r) f l =
    let h : ltb i event_limit ≡ true = lt-ltb i event_limit (omega arith) in
    ap₂ ◌∷◌ (rw (h, from_here no_event s i e r f)) (trace_from s t (suc i) r (from_next no_event s i e r f) (omega arith))

pub trace_source : (s t : List Event) → length s ≤ event_limit → trace s t (counted 0 (length s)) ≡ number 1 s
trace_source s t l = trace_from s t 0 s (from_start no_event s) (omega arith)
