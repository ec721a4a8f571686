-- What a beginning hands back, and what is promised of the run. Assumes nothing.
pub mod Start
pub mod Promise
