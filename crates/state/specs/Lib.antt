pub mod Of
pub mod Change
