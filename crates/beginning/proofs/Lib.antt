-- What is proved of the beginning of a run, and of runs on texts. Assumes nothing.
pub mod Counted
pub mod Tally
pub mod Begun
pub mod Texts
pub mod Groups
pub mod Unique
