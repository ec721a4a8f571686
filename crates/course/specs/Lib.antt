-- The fixed order of the steps, their number, and what is promised of them. Assumes nothing.
pub mod Step
pub mod Cost
pub mod Promise
