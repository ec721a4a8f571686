-- Laws that belong to no one function. Assumes nothing.
pub mod Steps
pub mod Turns
pub mod Stores
pub mod Readings
pub mod Prints
pub mod OneText
pub mod Answers
pub mod Unique
