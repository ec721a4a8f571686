-- The laws of this crate, by topic, and samples of the definitions. Assumes nothing.
pub mod Cuts
pub mod Parts
pub mod Walk
pub mod Fields
pub mod Numbers
pub mod Decimals
pub mod Round
pub mod Takes
pub mod Words
pub mod Writes
mod Samples
pub mod Unique
