pub mod MbLaws
pub mod BlobLaws
pub mod RuleLaws
pub mod RefusalLaws
pub mod FindLaws
pub mod PartLaws
pub mod Vectors
pub mod SameLaws
