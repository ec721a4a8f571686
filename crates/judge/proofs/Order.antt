-- The answers in their order: each is handed on if it refuses, and the next is asked if it does not. Assumes nothing.
use Prim.Native.Nat.{ℕ}
use mathlib.Core.List.{List, []}
use mathlib.Core.Path.{◌≡◌, refl, sym, ◌∙◌, ap}
use lib.ListN.{length}
use borrow.Author.Tests.{eq-eqb, ne_eqb}
use Rattle.std.specs.Prelude.{Bool}
use Rattle.event.specs.Answer.{answer, done, first}
use Rattle.event.specs.Room.{capacity, whole_events}
use Rattle.event.specs.Told.{is_done, Refuses}
use Rattle.event.specs.declared.Answer.{Answer}
use Rattle.rules.specs.View.{view_in}
use Rattle.rules.specs.Verdict.{count_answer, entry_answer, source_answer, start_answer_in, target_answer, verdict_in}
use Rattle.sight.proofs.Events.{onward_length}

-- the first of two answers
stops : (a b r : Answer) → Refuses r × (r ≡ a) → Refuses r × (r ≡ first a b)
stops a b r h = (h.0, h.1 ∙ sym (rw (sym (ap is_done h.1) ∙ h.0)))

goes : (a b : Answer) → done ≡ a → first a b ≡ b
goes a b z = rw (← z)

-- 8, over a room
count_stops : (l ns : List ℕ) → (length ns ≡ capacity l → ⊥) → count_answer (whole_events l) ns ≡ answer 8 3 (length ns)
unfolding count_answer
count_stops l ns h = rw (onward_length l 0 (capacity l), ne_eqb (length ns) (capacity l) h)

count_goes : (l ns : List ℕ) → length ns ≡ capacity l → count_answer (whole_events l) ns ≡ done
unfolding count_answer
count_goes l ns h = rw (onward_length l 0 (capacity l), eq-eqb (length ns) (capacity l) h)

module _ (regs : List Bool) (m n l t ns : List ℕ) where
  abbrev pub verdict : Answer
  verdict = verdict_in regs m n (whole_events l) (whole_events t) ns

  abbrev sources : Answer
  sources = source_answer (view_in regs) (whole_events t) 1 [] (whole_events l) ns

  abbrev targets : Answer
  targets = target_answer (view_in regs) ns 1 [] (whole_events t)

  abbrev entries : Answer
  entries = entry_answer (capacity t) 1 [] ns

  in_order : verdict ≡ first (start_answer_in regs 0 m n) (first (count_answer (whole_events l) ns) (first entries (first sources targets)))
  unfolding verdict_in
  in_order = rw (onward_length t 0 (capacity t))

  pub start_refuses : (r : Answer) → Refuses r × (r ≡ start_answer_in regs 0 m n) → Refuses r × (r ≡ verdict)
  start_refuses r h = rw in_order (stops _ _ r h)

  module _ (s : done ≡ start_answer_in regs 0 m n) where
    from_count : verdict ≡ first (count_answer (whole_events l) ns) (first entries (first sources targets))
    from_count = in_order ∙ goes _ _ s

    pub count_refuses : (length ns ≡ capacity l → ⊥) → Refuses (answer 8 3 (length ns)) × (answer 8 3 (length ns) ≡ verdict)
    count_refuses h = rw from_count (stops _ _ _ (refl, sym (count_stops l ns h)))

    module _ (c : length ns ≡ capacity l) where
      from_entries : verdict ≡ first entries (first sources targets)
      from_entries = from_count ∙ goes _ _ (sym (count_goes l ns c))

      pub entries_refuse : (r : Answer) → Refuses r × (r ≡ entries) → Refuses r × (r ≡ verdict)
      entries_refuse r h = rw from_entries (stops _ _ r h)

      module _ (g : done ≡ entries) where
        from_sources : verdict ≡ first sources targets
        from_sources = from_entries ∙ goes _ _ g

        pub sources_refuse : (r : Answer) → Refuses r × (r ≡ sources) → Refuses r × (r ≡ verdict)
        sources_refuse r h = rw from_sources (stops _ _ r h)

        pub targets_told : done ≡ sources → verdict ≡ targets
        targets_told z = from_sources ∙ goes _ _ z
