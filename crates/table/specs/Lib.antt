pub mod Records
pub mod Counts
pub mod Keys
pub mod Table
pub mod Rules
pub mod Steps
pub mod Same
