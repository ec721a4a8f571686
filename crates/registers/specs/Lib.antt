-- What a reader has to believe: a register's line, the reading of a list text, and which locations have a text.
pub mod Reg
pub mod Reading
pub mod Text
pub mod Groups
-- Inner: the steps of the reading. Assumes nothing.
pub mod Lines
