-- Why the loops over the source events find the first fault. Assumes nothing.

-- what a pass knows of the events behind it, and the answers from an event on
pub mod Passes
pub mod Cells
pub mod Onward
-- the arrays of the passes
pub mod Arrays
pub mod Closed
pub mod Tallied
pub mod Pass
pub mod Unique
