pub mod Promise
pub mod Memory
pub mod Machine
pub mod Entry
pub mod Session
