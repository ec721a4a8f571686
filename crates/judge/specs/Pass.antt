-- What the judge's marks say, and its small decisions about a target event. Assumes nothing.
use Rattle.std.specs.Prelude.{◌≡◌, Bool, not, cond, ◌&&◌, ◌||◌, List, ℕ, suc, ◌<◌, Result, Ok, Err}
use Rattle.laws.specs.Has.{has}
use Rattle.kinds.specs.Kind.{is_load_kind}
use Rattle.judge.specs.Marks.{in_words}
use Rattle.event.specs.Limit.{event_limit}
use Rattle.event.specs.Answer.{done}
use Rattle.event.specs.Told.{Refuses}
use Rattle.event.specs.declared.Answer.{Answer}
use Rattle.judge.specs.declared.marks.Marks.{Marks}

-- the marks say which numbers of target events the entries name
abbrev pub Marked : List ℕ → List ℕ → Type 0
Marked marks ns = (k : ℕ) → 0 < k → k < suc event_limit → in_words marks k ≡ has k ns

-- whether a target event has no source and may not be inserted
abbrev pub unsupported_by : Bool → Bool → Bool → Bool
unsupported_by sourced is_load fresh = not sourced && (not is_load || fresh)

-- 15 or 16 of a target event of a kind, or 0
abbrev pub target_fault_by : ℕ → Bool → ℕ
target_fault_by kind unsupported = cond unsupported (cond (is_load_kind kind) 16 15) 0

-- what 9 comes to: the marks of the numbers that the entries name, or the answer that refuses
abbrev pub Names : Answer → List ℕ → Result Marks Answer → Type 0
Names a ns (Ok marks) = (done ≡ a) × Marked marks.words ns
Names a ns (Err r) = Refuses r × (r ≡ a)
