pub mod Slots
pub mod Telling
