-- What a reader has to believe: an entry's line, the reading of a matching text, and which entries have a text.
pub mod Entry
pub mod Reading
pub mod Text
-- Inner: the steps of the reading. Assumes nothing.
pub mod Survey
