pub mod Interval
pub mod Arithmetic
pub mod Of
pub mod Entry
