pub mod Marking
pub mod Parts
pub mod Walking
pub mod Storing
pub mod Statements
