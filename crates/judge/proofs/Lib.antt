-- Why the judge's code finds the first fault. Assumes nothing.

-- the answers from an element on
pub mod Onward
-- the marks of numbers
pub mod Bit
pub mod Marking
pub mod Marked
-- one more entry, target event or cell
pub mod Named
pub mod Sourced
pub mod Cells
-- the answers in their order
pub mod Order
pub mod Unique
