pub mod Bytes
pub mod Form
pub mod Parts
pub mod OnePass
pub mod Trees
