-- What the contracts of this crate say, by page: the check, the line at fault, demand 3, the groups of a list, and the cases of the bench. Assumes nothing.
pub mod Check
pub mod Line
pub mod Demand
pub mod Groups
pub mod Cases
