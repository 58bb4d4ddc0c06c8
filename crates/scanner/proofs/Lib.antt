mod Digits
mod Forms
pub mod Parts
mod Exprs
mod Tests
mod Heads
mod Stmts
pub mod OnePass
