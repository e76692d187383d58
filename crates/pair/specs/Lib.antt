pub mod Tree
pub mod Pair
pub mod Rules
pub mod Steps
pub mod Looked
