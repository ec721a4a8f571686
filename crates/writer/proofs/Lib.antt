-- Laws that belong to no one function. Assumes nothing.
pub mod Puts
pub mod Texts
pub mod Cells
pub mod Answered
pub mod Unique
