pub mod SameThresholds
pub mod Watching
