pub mod KeyListLaws
