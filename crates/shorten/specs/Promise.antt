-- Document 02, C-19, on texts: what is promised of a shortened text and its matching, under a list of registers. Assumes nothing.
use Rattle.std.specs.Prelude.{ℕ, ◌≤◌, Bool, List, ◌≡◌, length}
use Rattle.event.specs.Answer.{done}
use Rattle.event.specs.Room.{capacity}
use Rattle.memory.specs.Listed.{none_listed}
use Rattle.registers.specs.Reading.{ListRead}
use Rattle.trace.specs.Reading.{form_of, start_of, events_of, fault_in}
use Rattle.matching.specs.Reading.{entries_of}
use Rattle.rules.specs.View.{view_in}
use Rattle.rules.specs.Moves.{Run}
use Rattle.rules.specs.Run.{Traced, changes, number}
use Rattle.checker.specs.Check.{Lent, check_in, check_listed}
use Rattle.checker.specs.Demand.{AdmittedIn, target_of}
use Rattle.shelf.specs.Short.{short_in, names_in}
use Rattle.shorten.specs.Text.{short_text, short_matching}

-- A long text that is read without refusal, the shortened one for its target and the matching; in rooms that hold what is read.
pub record ShelvedIn (regs : List Bool) (l : Lent) : Type 0 where
  pub read : (fault_in regs 1 l.source).number ≡ 0
  pub target : l.target ≡ short_text regs l.source
  pub matching : l.matching ≡ short_matching regs l.source
  pub source_room : length (events_of l.source) ≤ capacity l.source_room_of
  pub target_room : length (events_of l.source) ≤ capacity l.target_room_of
  pub entry_room : length (events_of l.source) ≤ length l.entry_room_of

-- "the matching is accepted": by the checker's own verdict on the three texts.
abbrev pub AcceptedTextIn : List Bool → Type 0
AcceptedTextIn regs = (l : Lent) → ShelvedIn regs l → (check_in regs l).answer ≡ done

-- "no target reachable by allowed runs has fewer events": no trace that a run from the long text's trace ends at, and no target that is accepted.
pub record LeastTextFor (regs : List Bool) (t : List ℕ) : Type 0 where
  pub runs : (u : List Traced) → Run (changes (view_in regs)) (number 1 (events_of t)) u → length (events_of (short_text regs t)) ≤ length u
  pub targets : (l : Lent) → l.source ≡ t → AdmittedIn regs l → (check_in regs l).answer ≡ done → length (events_of (short_text regs t)) ≤ length (target_of l)

abbrev pub LeastTextIn : List Bool → Type 0
LeastTextIn regs = (t : List ℕ) → (fault_in regs 1 t).number ≡ 0 → LeastTextFor regs t

-- "shortening twice changes nothing": the shortened text is read without refusal, and shortened it is the same bytes.
abbrev pub TwiceTextIn : List Bool → Type 0
TwiceTextIn regs =
    (t : List ℕ) → (fault_in regs 1 t).number ≡ 0 → ((fault_in regs 1 (short_text regs t)).number ≡ 0) × (short_text regs (short_text regs t) ≡ short_text regs t)

-- What is written is read back: the events that stay, in the form of the long text and from its starting memory, and the entries.
pub record ReadBackFor (regs : List Bool) (t : List ℕ) : Type 0 where
  pub form : form_of (short_text regs t) ≡ form_of t
  pub start : start_of (short_text regs t) ≡ start_of t
  pub events : events_of (short_text regs t) ≡ short_in regs (events_of t)
  pub entries : entries_of (short_matching regs t) ≡ names_in regs (events_of t)

abbrev pub ReadBackIn : List Bool → Type 0
ReadBackIn regs = (t : List ℕ) → (fault_in regs 1 t).number ≡ 0 → ReadBackFor regs t

-- The same without a list, which lists none.
abbrev pub AcceptedText : Type 0
AcceptedText = AcceptedTextIn none_listed

abbrev pub LeastText : Type 0
LeastText = LeastTextIn none_listed

abbrev pub TwiceText : Type 0
TwiceText = TwiceTextIn none_listed

-- With what was read of a list without refusal: the check under it accepts too.
abbrev pub AcceptedTextListed : Type 0
AcceptedTextListed =
    (list : ListRead) (l : Lent) → list.answer.number ≡ 0 → ShelvedIn list.listed l → (check_listed list l).answer ≡ done
