pub mod ChainLaws
pub mod ScanLaws
pub mod KeyLaws
pub mod RefusalLaws
