-- Laws that belong to no one function. Assumes nothing.
pub mod Tables
pub mod Stands
pub mod Taking
pub mod Walk
pub mod Layouts
pub mod Records
pub mod Prints
pub mod Unique
