-- What the rules see of an event, their moves and runs, the faults and the verdict, and what accepting means. Assumes nothing.
pub mod View
pub mod Moves
pub mod Run
pub mod Fault
pub mod Verdict
pub mod Demand
pub mod Recode
pub mod Looks
