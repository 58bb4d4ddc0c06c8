pub mod Watch
pub mod Pass
