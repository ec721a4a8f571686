-- What the rules see of an event, and the events of a room as a list. Assumes nothing.
pub mod Sight
pub mod Events
pub mod Unique
