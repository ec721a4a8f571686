-- The part of the row that is its word lies within it, as its length is taken modulo 8. Assumes nothing.
use Rattle.std.proofs.Common.{ℕ, ◌+◌, ◌-◌, ◌%◌, ◌≡◌, arith}
use lib.ListN.{get_or}
use Rattle.record.proofs.word.word_in.Goals as goal

pub returns : goal.returns
returns c =
    let n : ℕ = get_or c.args.row.now 0 0 % 8 in
    let z : n + 1 - 1 ≡ n = omega arith in
    rw z
