pub mod Each
pub mod Numbers
pub mod Order
pub mod Signed
pub mod Zeros
pub mod Steps
pub mod Replace
