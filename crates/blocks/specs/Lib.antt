pub mod Shape
pub mod Counts
pub mod Rules
