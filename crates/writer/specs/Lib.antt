-- Inner: bytes that are put, and what is handed back. What a reader has to believe of the writing and moving of texts stands with the reading, in `trace`.
-- Assumes nothing.
pub mod Put
pub mod Wrote
