-- What the contracts of this crate say. Assumes nothing.
pub mod Numbers
