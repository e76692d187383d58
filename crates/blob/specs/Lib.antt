pub mod Leader
pub mod Mb
pub mod Blob
pub mod Rules
pub mod Steps
