pub mod FirstLaws
pub mod KeyLaws
pub mod FoundLaws
