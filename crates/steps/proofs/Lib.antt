-- What is proved of the next step by index, and of a replay. Assumes nothing.
pub mod Searches
pub mod Numbers
pub mod Kept
pub mod Resume
pub mod Plays
pub mod Unlisted
pub mod Unique
