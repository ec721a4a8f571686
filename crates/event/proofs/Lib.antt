-- Laws that belong to no one function. Assumes nothing.
pub mod Rooms
pub mod Unique
pub mod Answers
pub mod Told
