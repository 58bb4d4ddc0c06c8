pub mod Keys
pub mod Lexing
pub mod Pieces
pub mod Tokens
pub mod Tests
