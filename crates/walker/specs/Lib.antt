pub mod Table
pub mod Ready
pub mod Walk
pub mod Store
pub mod Pass
pub mod Simple
