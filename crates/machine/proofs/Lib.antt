pub mod Analysing
pub mod Coding
pub mod Stepping
