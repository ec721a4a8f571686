-- What the contracts of this crate say: the fixed table of kinds. Assumes nothing.
pub mod Kind
