-- What is proved of the steps over events. Assumes nothing.

-- tags, and a replay as a run
pub mod Tags
pub mod Runs
-- the fixed order is the next steps, as many as the matching costs
pub mod Counts
pub mod Remove
pub mod Sort
pub mod Insert
pub mod Printed
-- and no run has fewer
pub mod Weigh
pub mod Least
-- the next step in the request's words
pub mod Words
pub mod Rising
pub mod Cases
