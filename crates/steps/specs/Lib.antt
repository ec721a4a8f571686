-- What the functions hand back, and what is promised of a next step. Assumes nothing.
pub mod Play
pub mod Promise
