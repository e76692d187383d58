pub mod Values
pub mod Locating
pub mod Doubles
pub mod Reading
pub mod Writing
pub mod Amounts
pub mod Steps
