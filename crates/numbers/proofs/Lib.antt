-- Laws that belong to no one function. Assumes nothing.
pub mod Mapped
pub mod Unique
