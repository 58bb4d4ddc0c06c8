pub mod Loaded
pub mod Held
