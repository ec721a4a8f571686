-- Why a step is applied as the rules say. Assumes nothing.

-- the tests are the rules' statements, and what they look at
pub mod May
pub mod Near
-- a step is a move
pub mod Allow
-- a step by index, on the trace and on the numbers
pub mod Seam
pub mod Traces
pub mod Shifts
pub mod Outcomes
pub mod Changes
pub mod Unlisted
pub mod Unique
