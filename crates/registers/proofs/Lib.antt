-- Laws that belong to no one function. Assumes nothing.
pub mod Steps
pub mod Prints
pub mod Marks
pub mod Groups
pub mod OneText
pub mod Turns
pub mod Answers
pub mod Cases
pub mod Unique
