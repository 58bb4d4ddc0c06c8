pub mod Basics
pub mod Syntax
pub mod Semantics
pub mod Encoding
pub mod Validity
pub mod Command
pub mod Kinds
