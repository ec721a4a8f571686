-- The number that the text says is that of the digits from here on after the number so far, which is at most `max`.
use Rattle.std.proofs.Common.{◌≡◌, ◌≤◌, drop}
use Rattle.text.specs.Number.{digits_on}
use Rattle.text.proofs.number.digits_of.Given as goal

abbrev pub invariant-loop-b : goal.invariant-loop-b
invariant-loop-b l = record { rest : digits_on l.max 0 l.s ≡ digits_on l.max l.n (drop l.b-index l.s); small : l.n ≤ l.max }
