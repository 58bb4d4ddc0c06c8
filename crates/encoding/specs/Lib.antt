pub mod Statements
pub mod Reader
pub mod Standing
pub mod Parts
pub mod ProgramParts
