-- Laws that belong to no one function. Assumes nothing.
pub mod Losses
pub mod Turns
pub mod Unique
