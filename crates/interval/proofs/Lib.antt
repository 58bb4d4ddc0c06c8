pub mod Combining
pub mod Widening
pub mod Reckoning
pub mod Operators
