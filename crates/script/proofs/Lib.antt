pub mod Joined
pub mod HexDigits
