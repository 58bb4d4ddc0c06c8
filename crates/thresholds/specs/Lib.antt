pub mod Nearest
pub mod Collecting
pub mod Statements
