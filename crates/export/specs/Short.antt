-- Document 02, C-19: what a shortening hands back and leaves, laid out for C and Rust. Assumes nothing.
use Rattle.std.specs.Prelude.{ℕ, List, ◌≡◌}
use Rattle.shorten.specs.Text.{ShortSaid}
use Rattle.results.specs.Results.{shortened_numbers}

-- What is left in the lent arrays: what is to be handed back, laid out, and both parts as they are to be.
pub record Lays (r : ShortSaid) (text matching : List ℕ) (result out matchingOut : List ℕ) : Type 0 where
  pub numbers : result ≡ shortened_numbers r
  pub shortened : out ≡ text
  pub matched : matchingOut ≡ matching
