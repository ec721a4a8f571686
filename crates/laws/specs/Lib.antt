-- What the statements of every crate share. Assumes nothing.
pub mod Each
pub mod Has
pub mod Unique
