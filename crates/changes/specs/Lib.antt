-- The tests beside the rules' statements, what a step makes of a trace, what a run holds, and what the functions hand back. Assumes nothing.
pub mod Allowed
pub mod Change
pub mod Tags
pub mod Apply
-- inner pages
pub mod Inner
