-- What the contracts of this crate say, by page: the memory, registers. Assumes nothing.
pub mod Memory
pub mod Listed
