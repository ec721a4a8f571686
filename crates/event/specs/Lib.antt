-- What the contracts of this crate say, by page: the most places and events, answers and what a refusal hands back, events in a room. Assumes nothing.
pub mod Limit
pub mod Answer
pub mod Told
pub mod Room
