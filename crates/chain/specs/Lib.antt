pub mod Chain
pub mod Links
pub mod Marks
pub mod Rules
pub mod Following
