-- What the contracts of this crate say: what a call hands back and leaves in the lent arrays; runs. Assumes nothing.
pub mod Handed
pub mod Runs
pub mod Short
