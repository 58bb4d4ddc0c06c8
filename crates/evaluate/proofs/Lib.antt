pub mod ReadyParts
pub mod Expressions
pub mod Comparisons
pub mod Tests
