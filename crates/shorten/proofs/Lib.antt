-- What is proved of shortened texts. Assumes nothing.
pub mod Walked
pub mod Staying
pub mod Kept
pub mod Texts
pub mod Written
pub mod Surveyed
pub mod Quiet
pub mod Promised
pub mod Groups
pub mod Answers
pub mod Unique
