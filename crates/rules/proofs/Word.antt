-- The theory of one location: an automaton that accepts its word, that is what it sees of a source, if and only if the word is free of the
-- faults 11, 13 and 14. Its state is the value of the near access, n, and that of the witness, k. Assumes nothing.
use mathlib.Core.Path.{◌≡◌, refl, sym, ◌∙◌, ap}
use mathlib.Core.Logic.{◌≢◌}
use mathlib.Core.Bool.{Bool, true, false, not}
use mathlib.Core.Option.{Option, none, some, some-ne-none, none-ne-some}
use mathlib.Core.List.{List, [], ◌∷◌}
use Prim.Native.Nat.{ℕ}
use lib.Dec.{T}

-- What one place sees of an item.
pub data Letter : Type 0 where
  far : Letter
  a_wall : (gone : Bool) → Letter
  kept_load : (value : ℕ) → Letter
  kept_store : (value : ℕ) → Letter
  gone_load : (value : ℕ) (used : Bool) → Letter
  gone_store : (value : ℕ) → Letter

-- the value of the near access after a letter, where it was n before it
abbrev pub near_letter : Letter → Option ℕ → Option ℕ
near_letter far n = n
near_letter (a_wall g) n = none
near_letter (kept_load v) n = some v
near_letter (kept_store v) n = some v
near_letter (gone_load v u) n = some v
near_letter (gone_store v) n = some v

-- the value of the near access before
abbrev pub near_word : List Letter → Option ℕ
near_word [] = none
near_word (x ∷ b) = near_letter x (near_word b)

-- the near access after is a store
abbrev pub stores_word : List Letter → Bool
stores_word [] = false
stores_word (far ∷ a) = stores_word a
stores_word (a_wall g ∷ a) = false
stores_word (kept_load v ∷ a) = false
stores_word (kept_store v ∷ a) = true
stores_word (gone_load v u ∷ a) = false
stores_word (gone_store v ∷ a) = true

-- ---- faults 11, 13 and 14, at one place

-- closing: of the accesses after, the first that is a store or kept is a kept load, or there is none
abbrev pub closing_word : List Letter → Bool
closing_word [] = true
closing_word (far ∷ a) = closing_word a
closing_word (a_wall g ∷ a) = true
closing_word (kept_load v ∷ a) = true
closing_word (kept_store v ∷ a) = false
closing_word (gone_load v u ∷ a) = closing_word a
closing_word (gone_store v ∷ a) = false

-- k, or v where there is no access before
abbrev pub seed : Option ℕ → ℕ → Option ℕ → Option ℕ
seed none v k = some v
seed (some m) v k = k

abbrev pub witness_letter : Letter → Option ℕ → Option ℕ → Option ℕ
witness_letter far n k = k
witness_letter (a_wall g) n k = none
witness_letter (kept_load v) n k = some v
witness_letter (kept_store v) n k = some v
witness_letter (gone_load v u) n k = seed n v k
witness_letter (gone_store v) n k = k

-- the witness: the value of the last kept access before or, with no kept one, of the first access of the group, if that is a load
abbrev pub witness_word : List Letter → Option ℕ
witness_word [] = none
witness_word (x ∷ b) = witness_letter x (near_word b) (witness_word b)

abbrev pub Fine₁ : List Letter → Letter → List Letter → Type 0
Fine₁ b far a = Unit {0}
Fine₁ b (a_wall g) a = T (not g)
Fine₁ b (kept_load v) a = Unit {0}
Fine₁ b (kept_store v) a = Unit {0}
Fine₁ b (gone_load v u) a = T u → near_word b ≢ none
Fine₁ b (gone_store v) a = T (closing_word a) → witness_word b ≡ some v

abbrev pub Fine : List Letter → List Letter → Type 0
Fine b [] = Unit {0}
Fine b (x ∷ a) = Fine₁ b x a × Fine (x ∷ b) a

-- ---- agreement: a load has the value of the near access before it

abbrev pub fits : Option ℕ → ℕ → Type 0
fits none v = Unit {0}
fits (some m) v = m ≡ v

abbrev pub Agree₁ : Letter → Option ℕ → Type 0
Agree₁ far n = Unit {0}
Agree₁ (a_wall g) n = Unit {0}
Agree₁ (kept_load v) n = fits n v
Agree₁ (kept_store v) n = Unit {0}
Agree₁ (gone_load v u) n = fits n v
Agree₁ (gone_store v) n = Unit {0}

abbrev pub Agree : Option ℕ → List Letter → Type 0
Agree n [] = Unit {0}
Agree n (x ∷ s) = Agree₁ x n × Agree (near_letter x n) s

abbrev pub first_unused : Option ℕ → Bool → Type 0
first_unused none u = T (not u)
first_unused (some m) u = Unit {0}

abbrev pub guard : Letter → Option ℕ → Option ℕ → Type 0
guard far n k = Unit {0}
guard (a_wall g) n k = T (not g) × (k ≡ n)
guard (kept_load v) n k = k ≡ n
guard (kept_store v) n k = Unit {0}
guard (gone_load v u) n k = first_unused n u
guard (gone_store v) n k = Unit {0}

abbrev pub Ok : Option ℕ → Option ℕ → List Letter → Type 0
Ok n k [] = k ≡ n
Ok n k (x ∷ s) = guard x n k × Ok (near_letter x n) (witness_letter x n k) s

-- ---- the automaton is the faults

pub some≢none : {X : Type 0} {v : ℕ} → Option.some v ≡ none → X
some≢none {v = v} e = absurd (some-ne-none v e)

pub none≢some : {X : Type 0} {v : ℕ} → none ≡ Option.some v → X
none≢some {v = v} e = absurd (none-ne-some v e)

pub ok_closing : {n k : Option ℕ} (s : List Letter) → n ≢ none → Agree n s → Ok n k s → T (closing_word s) → k ≡ n
ok_closing [] ne g h c = h
ok_closing (far ∷ s) ne g h c = ok_closing s ne g.1 h.1 c
ok_closing (a_wall x ∷ s) ne g h c = h.0.1
ok_closing (kept_load v ∷ s) ne g h c = h.0
ok_closing (kept_store v ∷ s) ne g h c = absurd c
ok_closing {n = none} (gone_load v u ∷ s) ne g h c = absurd (ne refl)
ok_closing {n = some m} (gone_load v u ∷ s) ne g h c = ok_closing s (λ e. some≢none e) g.1 h.1 c ∙ ap some (sym g.0)
ok_closing (gone_store v ∷ s) ne g h c = absurd c

fine₁ : (b s : List Letter) (x : Letter) → Agree (near_word b) (x ∷ s) → Ok (near_word b) (witness_word b) (x ∷ s) → Fine₁ b x s
fine₁ b s far g h = tt
fine₁ b s (a_wall d) g h = h.0.0
fine₁ b s (kept_load v) g h = tt
fine₁ b s (kept_store v) g h = tt
fine₁ b s (gone_load v true) g h = λ _ e. rw e at h.0
fine₁ b s (gone_load v false) g h = λ t. absurd t
fine₁ b s (gone_store v) g h = ok_closing s (λ e. some≢none e) g.1 h.1

pub fine_of_ok : (b s : List Letter) → Agree (near_word b) s → Ok (near_word b) (witness_word b) s → Fine b s
fine_of_ok b [] g h = tt
fine_of_ok b (x ∷ s) g h = (fine₁ b s x g h, fine_of_ok (x ∷ b) s g.1 h.1)

unused : (n : Option ℕ) (u : Bool) → (T u → n ≢ none) → first_unused n u
unused none true f = f tt refl
unused none false f = tt
unused (some m) u f = tt

pub seeded : (n k : Option ℕ) (v : ℕ) → fits n v → k ≡ n → seed n v k ≡ some v
seeded none k v g e = refl
seeded (some m) k v g e = e ∙ ap some g

-- where the next that is looked at would find the state not in order, a fault has been seen
pub ok_of_fine : (b s : List Letter) → Agree (near_word b) s → (T (closing_word s) → witness_word b ≡ near_word b) → Fine b s → Ok (near_word b) (witness_word b) s
ok_of_fine b [] g c f = c tt
ok_of_fine b (far ∷ s) g c f = (tt, ok_of_fine (far ∷ b) s g.1 c f.1)
ok_of_fine b (a_wall d ∷ s) g c f = ((f.0, c tt), ok_of_fine (a_wall d ∷ b) s g.1 (λ _. refl) f.1)
ok_of_fine b (kept_load v ∷ s) g c f = (c tt, ok_of_fine (kept_load v ∷ b) s g.1 (λ _. refl) f.1)
ok_of_fine b (kept_store v ∷ s) g c f = (tt, ok_of_fine (kept_store v ∷ b) s g.1 (λ _. refl) f.1)
ok_of_fine b (gone_load v u ∷ s) g c f =
    (unused (near_word b) u f.0, ok_of_fine (gone_load v u ∷ b) s g.1 (λ t. seeded (near_word b) (witness_word b) v g.0 (c t)) f.1)
ok_of_fine b (gone_store v ∷ s) g c f = (tt, ok_of_fine (gone_store v ∷ b) s g.1 f.0 f.1)
