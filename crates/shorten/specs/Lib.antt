-- The shortened text and its matching, and what is promised of them.
pub mod Text
pub mod Promise
-- Inner: whether each event stays, and those that do. Assumes nothing.
pub mod Stay
pub mod Write
