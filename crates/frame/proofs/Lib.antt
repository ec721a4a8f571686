-- The laws of a reading, over the layout of the text. Assumes nothing.
pub mod Heads
pub mod Lines
pub mod Tries
pub mod Settled
pub mod Stores
pub mod Answers
pub mod Unique
