pub mod BlobLaws
pub mod CellLaws
pub mod LineLaws
pub mod HeadLaws
pub mod ListingLaws
pub mod RefusalLaws
