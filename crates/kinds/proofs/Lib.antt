-- Laws that belong to no one function. Assumes nothing.
pub mod Contained
pub mod Lawful
pub mod Table
pub mod Unique
