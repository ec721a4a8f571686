-- What a reader has to believe, by page: answers 5, 6, 20 and 21, the reading of a whole text, the writing of a whole text, its move to the other form, the
-- three with a list of registers, which traces have a text.
pub mod Fault
pub mod Reading
pub mod Writing
pub mod Moving
pub mod Listed
pub mod Text
-- Inner: the steps of a reading. Assumes nothing.
pub mod Survey
pub mod Ahead
