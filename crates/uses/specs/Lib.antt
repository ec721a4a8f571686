-- What a reader has to believe, by page: the first that is bad, which events clash, which locations want a line.
pub mod Bad
pub mod Use
pub mod Cover
-- Inner: how a location is used, as a number. Assumes nothing.
pub mod Way
