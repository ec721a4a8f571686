-- One answer to each contract. Assumes nothing.
pub mod Unique
