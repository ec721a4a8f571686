-- Laws that belong to no one function. Assumes nothing.
pub mod Cases
pub mod Lines
pub mod Answers
pub mod Filled
pub mod Demand3
pub mod Admitted
pub mod Groups
pub mod Unique
