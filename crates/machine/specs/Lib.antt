pub mod Entry
pub mod Export
pub mod Loading
