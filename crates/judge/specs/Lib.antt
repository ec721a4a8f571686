-- Pages to believe: none. The contract of `judge` cites the pages of crates `event` and `rules` alone.
-- Inner pages: what the judge's loops keep and its small functions decide. Assumes nothing.
pub mod Marks
pub mod Pass
