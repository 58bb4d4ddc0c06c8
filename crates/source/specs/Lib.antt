pub mod Valid
pub mod Sizes
pub mod Reading
