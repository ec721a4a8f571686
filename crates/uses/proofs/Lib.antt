-- Laws that belong to no one function. Assumes nothing.
pub mod Bad
pub mod Ways
pub mod Starts
pub mod Idle
pub mod Unique
