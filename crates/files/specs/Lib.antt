-- What the contracts of the shared program parts cite. Assumes nothing.
pub mod Counts
pub mod Lines
pub mod Run
pub mod Shown
