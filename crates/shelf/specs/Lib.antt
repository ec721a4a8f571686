-- Which events a shortened trace keeps, and what is promised of it. Assumes nothing.
pub mod Short
pub mod Promise
