mod Commands
mod ArrayLengths
mod Headers
pub mod Hearing
