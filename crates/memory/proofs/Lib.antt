-- Laws that belong to no one function. Assumes nothing.
pub mod Wrap
pub mod Exchange
pub mod Unlisted
pub mod Unique
