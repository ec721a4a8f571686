-- General laws that the toolchain's library lacks, by topic. Assumes nothing.
pub mod Cases
pub mod Bools
pub mod Lists
pub mod Has
