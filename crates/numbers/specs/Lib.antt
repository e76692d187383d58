pub mod What
pub mod Lent
pub mod Header
pub mod Cells
pub mod Blob
pub mod Cursor
pub mod Given
pub mod Steps
