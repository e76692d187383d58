pub mod PieceLaws
pub mod TextLaws
pub mod Vectors
