pub mod Hex
pub mod Script
