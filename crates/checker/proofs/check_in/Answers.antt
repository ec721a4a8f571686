-- A refusal stores nothing; of texts that were read, the rooms hold what is judged. Assumes nothing.
use Rattle.checker.proofs.Answers.{texts_refused}
use Rattle.checker.proofs.Filled.{source_filled, target_filled, entries_entered, checks}
use Rattle.checker.proofs.check_in.Goals as goal

pub returns-in-Err : goal.returns-in-Err
returns-in-Err c = texts_refused _ _ _ c.in-Err.ensures.0 c.in-Err.ensures.1 _ c.refusal.ensures

pub judged-requires-clause-event_words_in_bounds : goal.judged-requires-clause-event_words_in_bounds
judged-requires-clause-event_words_in_bounds c = rw c.store.ensures (source_filled _ _ _ c.in-Ok.ensures).inside

pub judged-requires-clause-event_words_in_bounds_2 : goal.judged-requires-clause-event_words_in_bounds_2
judged-requires-clause-event_words_in_bounds_2 c = rw c.store-2.ensures (target_filled _ _ _ c.in-Ok.ensures).inside

pub judged-requires-clause-entries_in_bounds : goal.judged-requires-clause-entries_in_bounds
judged-requires-clause-entries_in_bounds c = rw c.store-3.ensures (entries_entered _ _ _ c.in-Ok.ensures).inside

pub judged-requires-clause-events_le_event_limit : goal.judged-requires-clause-events_le_event_limit
judged-requires-clause-events_le_event_limit c = ((source_filled _ _ _ c.in-Ok.ensures).few, (target_filled _ _ _ c.in-Ok.ensures).few)

pub judged-requires-clause-placed : goal.judged-requires-clause-placed
judged-requires-clause-placed c = rw c.store.ensures (source_filled _ _ _ c.in-Ok.ensures).placed

pub judged-requires-clause-placed_2 : goal.judged-requires-clause-placed_2
judged-requires-clause-placed_2 c = rw c.store-2.ensures (target_filled _ _ _ c.in-Ok.ensures).placed

pub returns : goal.returns
returns c = rw (c.judged.ensures, c.store.ensures, c.store-2.ensures, c.store-3.ensures) (checks _ _ _ c.in-Ok.ensures)
