pub mod Stored
pub mod Header
pub mod Rules
pub mod Entries
pub mod Walk
pub mod Visits
pub mod Steps
