pub mod Text
pub mod Ready
pub mod Printing
pub mod Whole
