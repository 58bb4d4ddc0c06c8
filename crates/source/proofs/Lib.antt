pub mod Places
pub mod Counting
pub mod Exits
