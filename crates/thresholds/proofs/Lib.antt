pub mod Nearest
pub mod Bisection
pub mod Few
pub mod Walking
pub mod FirstBytes
pub mod Low
pub mod Gathering
