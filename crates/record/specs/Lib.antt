-- What the contracts of this crate say. The first three pages are what a reader has to believe: the forms, the layout of a line, and what a line is.
-- Assumes nothing.
pub mod Form
pub mod Layout
pub mod Record
-- Inner pages, which the contracts of single functions cite: a field taken at a place of a line, a row of a table of words.
pub mod Part
pub mod Table
