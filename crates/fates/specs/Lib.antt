-- Pages to believe: none. The contract of `source_answer` cites the pages of crates `event` and `rules` alone.
-- Inner pages: what the loops keep and the small functions decide. Assumes nothing.
pub mod Pass
