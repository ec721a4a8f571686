-- `bench::vectors_buffer` meets its contract, by the law of the length: counting so many would take too long. Assumes nothing.
use Prim.Native.Nat.{ℕ}
use mathlib.Core.Path.{◌≡◌, sym}
use lib.ListN.{length, replicate, length-replicate}
use Rattle.bench.proofs.vectors_buffer.Goals as goal

counted : (n : ℕ) → n ≡ length (replicate {0} {A = ℕ} n 0)
counted n = sym (length-replicate {0} {A = ℕ} n 0)

pub returns : goal.returns
returns c = counted 2400000
