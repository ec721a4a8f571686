-- What a reader has to believe, by topic: a text cut at a byte, its lines, their fields, numbers, words.
pub mod Cut
pub mod Line
pub mod Field
pub mod Number
pub mod Word
-- Inner: fields taken, and what is written. Assumes nothing.
pub mod Take
pub mod Write
