pub mod Steps
pub mod Runs
pub mod Bytes
pub mod Answering
