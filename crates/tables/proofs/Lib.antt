pub mod Digits
pub mod Showing
pub mod Storing
